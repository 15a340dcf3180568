-- What the sum of a block of a map's bytes is.
use Rattle.std.specs.Prelude.{ℕ, zero, suc, ◌+◌, ◌*◌, ◌^◌, List, [], ◌∷◌, ℤ, pos, negsuc}
use Rattle.model.specs.Front.{sum_factor}

-- The sum of the products of two lists, as far as both go.
unfoldable pub dot : List ℕ → List ℕ → ℕ
dot [] ws = 0
dot (b ∷ bs) [] = 0
dot (b ∷ bs) (w ∷ ws) = b * w + dot bs ws

-- The first `n` powers of 257, the highest first.
unfoldable pub powers : ℕ → List ℕ
powers zero = []
powers (suc n) = sum_factor ^ n ∷ powers n

-- The parts of the weights, as the code has them.
unfoldable pub low_weights : List ℤ
low_weights =
    pos 3_592 ∷ negsuc 17_833 ∷ pos 15_997 ∷ pos 20_461 ∷ pos 22_264 ∷ pos 20_740 ∷ pos 12_577 ∷ negsuc 14_995 ∷
    negsuc 14_082 ∷ negsuc 32_186 ∷ pos 29_199 ∷ negsuc 17_990 ∷ pos 24_921 ∷ negsuc 23_615 ∷ negsuc 28_395 ∷ negsuc 3_679 ∷
    pos 23_699 ∷ negsuc 23_110 ∷ negsuc 10_287 ∷ pos 16_536 ∷ negsuc 19_314 ∷ negsuc 16_902 ∷ negsuc 31_174 ∷ pos 12_883 ∷
    pos 1_582 ∷ pos 28_314 ∷ negsuc 30_234 ∷ pos 8_805 ∷ negsuc 16_539 ∷ negsuc 14_853 ∷ negsuc 26_320 ∷ negsuc 26_366 ∷
    negsuc 2_397 ∷ negsuc 14_544 ∷ negsuc 18_415 ∷ pos 25_174 ∷ pos 10_297 ∷ pos 9_477 ∷ pos 8_961 ∷ pos 17_630 ∷
    negsuc 27_473 ∷ negsuc 18_209 ∷ negsuc 22_002 ∷ negsuc 6_205 ∷ pos 17_316 ∷ pos 7_207 ∷ pos 3_087 ∷ negsuc 27_527 ∷
    pos 12_899 ∷ negsuc 6_322 ∷ pos 4_818 ∷ pos 15_066 ∷ negsuc 31_052 ∷ negsuc 1_904 ∷ negsuc 25_762 ∷ pos 8_568 ∷
    pos 28_848 ∷ pos 9_292 ∷ pos 2_586 ∷ pos 1_030 ∷ pos 769 ∷ pos 513 ∷ pos 257 ∷ pos 1 ∷
    []

unfoldable pub high_weights : List ℤ
high_weights =
    negsuc 29_249 ∷ negsuc 30_203 ∷ negsuc 15_162 ∷ pos 20_341 ∷ pos 12_574 ∷ pos 25_549 ∷ negsuc 14_435 ∷ negsuc 3_880 ∷
    negsuc 7_409 ∷ pos 22_412 ∷ pos 15_897 ∷ negsuc 8_607 ∷ negsuc 8_193 ∷ negsuc 31_396 ∷ negsuc 17_461 ∷ negsuc 7_207 ∷
    pos 26_747 ∷ negsuc 27_945 ∷ negsuc 27_393 ∷ negsuc 10_306 ∷ negsuc 12_534 ∷ negsuc 31_668 ∷ negsuc 16_442 ∷ pos 11_666 ∷
    negsuc 24_179 ∷ negsuc 31_714 ∷ negsuc 3_947 ∷ pos 32_625 ∷ negsuc 12_877 ∷ negsuc 7_699 ∷ negsuc 28_844 ∷ negsuc 10_821 ∷
    pos 4_803 ∷ pos 5_884 ∷ negsuc 11_451 ∷ negsuc 3_614 ∷ pos 14_521 ∷ negsuc 23_403 ∷ pos 13_169 ∷ pos 1_836 ∷
    pos 28_568 ∷ negsuc 28_448 ∷ pos 23_605 ∷ pos 3_917 ∷ pos 1_545 ∷ pos 6_381 ∷ pos 14_305 ∷ negsuc 5_298 ∷
    negsuc 12_005 ∷ negsuc 25_036 ∷ pos 32_288 ∷ negsuc 26_394 ∷ pos 14_943 ∷ negsuc 11_161 ∷ pos 2_507 ∷ pos 24_745 ∷
    pos 10_296 ∷ pos 5_140 ∷ pos 2_570 ∷ pos 1_030 ∷ pos 259 ∷ pos 1 ∷ pos 0 ∷ pos 0 ∷
    []
