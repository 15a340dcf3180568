-- The greatest of the heads is the count.
use Rattle.std.proofs.Common.{◌≡◌, ℕ, ◌+◌, ◌-◌, ◌≤◌, ◌<◌, ◌∙◌, List, length, get_or, take, drop, length-drop, arith}
use Rattle.std.proofs.lemmas.List.{get_or-take, get_or-drop, length-take-le}
use Rattle.turning.proofs.Chains.{greatest_head}
use Rattle.turning.proofs.bans.ban_count.Goals as goal

-- A part of a list, by index.
part_at : (w : List ℕ) (from n k : ℕ) → k < n → get_or (take (from + n - from) (drop from w)) k 0 ≡ get_or w (from + k) 0
part_at w from n k k< = get_or-take (from + n - from) (drop from w) k 0 (omega arith) ∙ get_or-drop from w k 0

part_length : (w : List ℕ) (from n : ℕ) → from + n ≤ length w → length (take (from + n - from) (drop from w)) ≡ n
part_length w from n h = length-take-le (from + n - from) (drop from w) (omega (arith, length-drop from w)) ∙ (omega arith)

pub returns : goal.returns
returns c =
    λ bans held known.
    let w = c.args.work.now in
    let n = part_length w 12288 c.args.lines (omega arith) in
    c.wide.ensures.0
    ∙ greatest_head
    (λ l l<. omega (arith, part_at w 12288 c.args.lines l l<, c.greatest.ensures.all l (omega (arith, n))))
    (λ h. let o = c.greatest.ensures.one h in (o.0, omega (arith, n, o.1), omega (arith, part_at w 12288 c.args.lines o.0 (omega (arith, n, o.1)), o.2)))
    held known
