-- `bucket` meets its contract. Two codes of 32 bits, their quotients and 37 times as much are far below 64 bits.
use mathlib.Core.Path.{refl}
use Rattle.equal_codes.specs.Codes.{bucket_of, bucket_at}
use native.Mathlib.Omega.{arith}
use Rattle.equal_codes.proofs.bucket.Goals as goal

pub returns : goal.returns
unfolding bucket_of bucket_at
returns c = (refl, omega arith)
