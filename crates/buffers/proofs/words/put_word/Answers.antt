-- Four stores one after another.
use Rattle.std.proofs.Common.{arith, ◌≡◌, suc, ◌+◌, [], ◌∷◌, ◌∙◌, append_assoc, take, drop}
use lib.Seq.{sets-eq}
use Rattle.model.specs.Host.{word_bytes}
use Rattle.buffers.proofs.words.put_word.Goals as goal

pub returns : goal.returns
unfolding word_bytes
returns c =
    let a = c.args in
    let at = a.at in
    let e1 : at + 1 ≡ suc at = omega arith in
    let e2 : at + 2 ≡ suc (suc at) = omega arith in
    let e3 : at + 3 ≡ suc (suc (suc at)) = omega arith in
    rw (e1, e2, e3) (sets-eq (word_bytes (a.number ∷ [])) a.bytes.now at c.requires ∙ append_assoc (take at a.bytes.now) (word_bytes (a.number ∷ [])) (drop (at + 4) a.bytes.now))
