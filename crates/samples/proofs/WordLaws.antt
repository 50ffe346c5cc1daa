-- Bytes as one number: equal numbers have equal bytes.
use Rattle.std.proofs.Common.{◌≡◌, ℕ, zero, suc, ◌+◌, ◌*◌, ◌/◌, ◌^◌, ◌<◌, List, get_or, sym, ap, ◌∙◌, add-zero, zero-add, suc-add, arith}
use Rattle.std.proofs.Math.Nat.{div-one}
use Rattle.std.proofs.lemmas.Nat.{shr-shr}
use Rattle.samples.specs.Front.{packed}

-- two bytes, four, and four after them
pub two : (s : List ℕ) (at : ℕ) → packed 2 s at ≡ get_or s at 0 + get_or s (at + 1) 0 * 256
unfolding packed
two s at = omega arith

pub four : (s : List ℕ) (at : ℕ) → packed 4 s at ≡ get_or s at 0 + get_or s (at + 1) 0 * 256 + get_or s (at + 2) 0 * 65536 + get_or s (at + 3) 0 * 16777216
unfolding packed
four s at =
    let two : at + 1 + 1 ≡ at + 2 = omega arith in
    let three : at + 2 + 1 ≡ at + 3 = omega arith in
    rw (two, three) (omega arith)

pub packed-low : (s : List ℕ) → ((i : ℕ) → get_or s i 0 < 256) → (at : ℕ) → packed 4 s at < 4294967296
packed-low s b at = omega (arith, four s at, b at, b (at + 1), b (at + 2), b (at + 3))

pub eight : (s : List ℕ) (at : ℕ) → packed 8 s at ≡ packed 4 s at + packed 4 s (at + 4) * 4294967296
unfolding packed
eight s at =
    let two : at + 1 + 1 ≡ at + 2 = omega arith in
    let three : at + 2 + 1 ≡ at + 3 = omega arith in
    let four : at + 3 + 1 ≡ at + 4 = omega arith in
    rw (two, three, four) (omega arith)

-- of some bytes as one number, the higher ones
pub packed-high : (m k : ℕ) (s : List ℕ) → ((i : ℕ) → get_or s i 0 < 256) → (at : ℕ) → packed (m + k) s at / 2 ^ (8 * m) ≡ packed k s (at + m)
unfolding packed
packed-high zero k s b at = rw (add-zero at, zero-add k) (div-one (packed k s at))
packed-high (suc m) k s b at =
    let rest = packed (m + k) s (at + 1) in
    let whole = get_or s at 0 + rest * 256 in
    let eight_more : 8 * suc m ≡ 8 + 8 * m = omega arith in
    let low : whole / 2 ^ 8 ≡ rest = omega (arith, b at) in
    let place : at + 1 + m ≡ at + suc m = omega arith in
    rw (suc-add m k)
    (ap (λ (n : ℕ). whole / 2 ^ n) eight_more
    ∙ sym (shr-shr whole 8 (8 * m))
    ∙ ap (λ (n : ℕ). n / 2 ^ (8 * m)) low
    ∙ rw (← place) (packed-high m k s b (at + 1)))

parts : (a b x y : ℕ) → a < 256 → b < 256 → a + x * 256 ≡ b + y * 256 → (a ≡ b) × (x ≡ y)
parts a b x y h k e = (omega arith, omega arith)

pub same_bytes_lem : (n : ℕ) (s : List ℕ) (x y : ℕ) → ((i : ℕ) → get_or s i 0 < 256) → packed n s x ≡ packed n s y → (j : ℕ) → j < n → get_or s (x + j) 0 ≡ get_or s (y + j) 0
unfolding packed
same_bytes_lem zero s x y b e j h = absurd (omega arith)
same_bytes_lem (suc n) s x y b e zero h = rw (add-zero x, add-zero y) (parts _ _ (packed n s (x + 1)) (packed n s (y + 1)) (b x) (b y) e).0
same_bytes_lem (suc n) s x y b e (suc j) h =
    let p : x + 1 + j ≡ x + suc j = omega arith in
    let q : y + 1 + j ≡ y + suc j = omega arith in
    let r = (parts _ _ (packed n s (x + 1)) (packed n s (y + 1)) (b x) (b y) e).1 in
    rw (← p, ← q) (same_bytes_lem n s (x + 1) (y + 1) b r j (omega arith))
