-- The shares of up to 32 gaps, and those of the same gaps in 32 places: a list with zeros after it reads the same at every place, so the marks are the same.
-- Assumes nothing.
use Prim.Native.Nat.{ℕ, zero, suc, ◌+◌, ◌-◌, ◌≤◌, ◌<◌}
use mathlib.Core.Path.{◌≡◌, refl, sym, ap, ◌∙◌}
use mathlib.Core.Bool.{Bool, true, false, cond}
use mathlib.Core.List.{List, [], ◌∷◌, ◌++◌}
use native.Mathlib.Omega.{arith}
use native.Mathlib.Decide.{dec_lt, ℕ_discrete}
use native.Mathlib.Nat.{add-zero}
use lib.Dec.{eqb}
use lib.ListN.{length, drop, get_or, set, replicate, length-append, length-drop, get_or-eq_default}
use lib.Seq.{get_or-set_same, get_or-set_other, set_out, ext_get_or}
use Rattle.arithmetic.specs.Whole.{least_of}
use Rattle.series.specs.Scan.{each}
use Rattle.series.specs.Sums.{sum_of}
use Rattle.series.proofs.Sums.{over-append, sum_zeros}
use Rattle.series.proofs.Scanned.{each-length}
use Rattle.series.proofs.Each.{each-join, each-blank}
use Rattle.shares.specs.Largest.{pick_of, marked, marks_of}
use Rattle.shares.specs.Shares.{handed_out, share_floor, remainder, floors_of, remainders_of, missing_of, extras_of, parted_of, shares_of}
use Rattle.shares.specs.Fair.{floor_at, remainder_at, FairShares}
use Rattle.shares.proofs.Parting.{added-at, floors-at, remainders-at, shares-length}
use Rattle.shares.proofs.Fair.{shares-fair}

-- ---- lists that read the same at every place

abbrev Same : List ℕ → List ℕ → Type 0
Same a b = (k : ℕ) → get_or a k 0 ≡ get_or b k 0

pick_same : (a b : List ℕ) → Same a b → (n : ℕ) → pick_of a n ≡ pick_of b n
unfolding pick_of
pick_same a b s zero = refl
pick_same a b s (suc n) = rw (pick_same a b s n, s (pick_of b n), s (suc n))

-- 0 put anywhere is read there, be it past the end
zero-put : (l : List ℕ) (i : ℕ) → get_or (set l i 0) i 0 ≡ 0
zero-put l i =
    elim (dec_lt i (length l)) [
      | yes h ↦ get_or-set_same l i 0 0 h
      | no h ↦
          let m : length l ≤ i = omega arith in
          ap (λ (x : List ℕ). get_or x i 0) (set_out l i 0 m) ∙ get_or-eq_default l 0 {n = i} m
    ]

put_same : (a b : List ℕ) → Same a b → (i : ℕ) → Same (set a i 0) (set b i 0)
put_same a b s i k =
    elim (ℕ_discrete k i) [
      | yes e ↦ rw e (zero-put a i ∙ sym (zero-put b i))
      | no e ↦ get_or-set_other a i k 0 0 e ∙ s k ∙ sym (get_or-set_other b i k 0 0 e)
    ]

marked-same : (m : ℕ) (a b marks : List ℕ) → Same a b → marked m a marks ≡ marked m b marks
unfolding marked
marked-same zero a b marks s = refl
marked-same (suc m) a b marks s =
    rw (pick_same a b s 31) (marked-same m (set a (pick_of b 31) 0) (set b (pick_of b 31) 0) (set marks (pick_of b 31) 1) (put_same a b s (pick_of b 31)))

marks-same : (m : ℕ) (a b : List ℕ) → Same a b → marks_of m a ≡ marks_of m b
unfolding marks_of
marks-same m a b s = marked-same m a b (replicate 32 0) s

-- ---- zeros after a list

abbrev pub zeros : ℕ → List ℕ
zeros k = drop k (replicate 32 0)

blank-at : (n k i : ℕ) → ◌≡◌ {A = ℕ} (get_or (drop k (replicate n 0)) i 0) 0
blank-at zero zero i = refl
blank-at zero (suc k) i = refl
blank-at (suc n) zero zero = refl
blank-at (suc n) zero (suc i) = blank-at n zero i
blank-at (suc n) (suc k) i = blank-at n k i

pub zeros-length : (k : ℕ) → length (zeros k) ≡ 32 - k
zeros-length k = length-drop k (replicate {A = ℕ} 32 0)

pub sum-padded : (l : List ℕ) (k : ℕ) → sum_of (l ++ zeros k) ≡ sum_of l
sum-padded l k = over-append (λ (x : ℕ). x) l (zeros k) ∙ rw (sum_zeros 32 k) (add-zero (sum_of l))

-- a list with zeros after it reads the same
pub past_end : (l : List ℕ) (k i : ℕ) → get_or (l ++ zeros k) i 0 ≡ get_or l i 0
past_end [] k i = blank-at 32 k i
past_end (x ∷ l) k zero = refl
past_end (x ∷ l) k (suc i) = past_end l k i

-- ---- the shares of gaps with zeros after them

module _ (gaps : List ℕ) (k : ℕ) (m f : ℕ) where
  floors-zeros : (i : ℕ) → get_or (floors_of m f (gaps ++ zeros k)) i 0 ≡ get_or (floors_of m f gaps) i 0
  floors-zeros i = floors-at m f (gaps ++ zeros k) i ∙ ap (share_floor m f) (past_end gaps k i) ∙ sym (floors-at m f gaps i)

  rests-zeros : Same (remainders_of m f (gaps ++ zeros k)) (remainders_of m f gaps)
  rests-zeros i = remainders-at m f (gaps ++ zeros k) i ∙ ap (remainder m f) (past_end gaps k i) ∙ sym (remainders-at m f gaps i)

  floor-nothing : share_floor m f 0 ≡ 0
  unfolding each
  floor-nothing = sym (floors-at m f [] 0)

  missing-zeros : missing_of m f (gaps ++ zeros k) ≡ missing_of m f gaps
  missing-zeros = ap (λ (s : ℕ). m - s)
      (ap sum_of (each-join (share_floor m f) gaps (zeros k)
      ∙ ap (λ (l : List ℕ). floors_of m f gaps ++ l) (each-blank (share_floor m f) 0 32 k ∙ ap (λ (z : ℕ). drop k (replicate 32 z)) floor-nothing)) ∙ sum-padded (floors_of m f gaps) k)

  extras-zeros : extras_of m f (gaps ++ zeros k) ≡ extras_of m f gaps
  extras-zeros = rw (missing-zeros) (marks-same (missing_of m f gaps) (remainders_of m f (gaps ++ zeros k)) (remainders_of m f gaps) rests-zeros)

  parted-zeros : (i : ℕ) → i < length gaps → get_or (parted_of m f (gaps ++ zeros k)) i 0 ≡ get_or (parted_of m f gaps) i 0
  unfolding parted_of
  parted-zeros i h =
      let e : get_or (floors_of m f (gaps ++ zeros k)) i 0 + get_or (extras_of m f (gaps ++ zeros k)) i 0 ≡ get_or (floors_of m f gaps) i 0 + get_or (extras_of m f gaps) i 0 = rw (floors-zeros i, extras-zeros) in
      added-at (floors_of m f (gaps ++ zeros k)) (extras_of m f (gaps ++ zeros k)) i (omega (arith, each-length (share_floor m f) (gaps ++ zeros k), length-append gaps (zeros k)))
      ∙ e
      ∙ sym (added-at (floors_of m f gaps) (extras_of m f gaps) i (omega (arith, each-length (share_floor m f) gaps)))

abbrev no_share : ℕ → ℕ
no_share gap = 0

no-shares : (gaps : List ℕ) (i : ℕ) → get_or (each no_share gaps) i 0 ≡ 0
unfolding each
no-shares [] i = refl
no-shares (x ∷ gaps) zero = refl
no-shares (x ∷ gaps) (suc i) = no-shares gaps i

pub shares-zeros : (surplus : ℕ) (gaps : List ℕ) (k i : ℕ) → i < length gaps → get_or (shares_of surplus (gaps ++ zeros k)) i 0 ≡ get_or (shares_of surplus gaps) i 0
unfolding shares_of handed_out
shares-zeros surplus gaps k i h = rw (sum-padded gaps k) (go (eqb (sum_of gaps) 0))
  where
    go : (t : Bool) → get_or (cond t (each no_share (gaps ++ zeros k)) (parted_of (least_of surplus (sum_of gaps)) (sum_of gaps) (gaps ++ zeros k))) i 0
        ≡ get_or (cond t (each no_share gaps) (parted_of (least_of surplus (sum_of gaps)) (sum_of gaps) gaps)) i 0
    go true = no-shares (gaps ++ zeros k) i ∙ sym (no-shares gaps i)
    go false = parted-zeros gaps k (least_of surplus (sum_of gaps)) (sum_of gaps) i h

-- ---- the shares of any gaps, up to 32 of them, are fair

module _ (surplus : ℕ) (gaps : List ℕ) (few : length gaps ≤ 32) where
  abbrev pub padded : List ℕ
  padded = gaps ++ zeros (length gaps)

  pub padded-32 : length padded ≡ 32
  padded-32 = omega (arith, length-append gaps (zeros (length gaps)), zeros-length (length gaps))

  padded-fair : FairShares surplus padded (shares_of surplus padded)
  padded-fair = shares-fair surplus padded padded-32

  share-at : (k : ℕ) → k < 32 → get_or (shares_of surplus padded) k 0 ≡ get_or (shares_of surplus gaps ++ zeros (length gaps)) k 0
  share-at k h =
      elim (dec_lt k (length gaps)) [
        | yes l ↦ shares-zeros surplus gaps (length gaps) k l ∙ sym (past_end (shares_of surplus gaps) (length gaps) k)
        | no l ↦
            let m : length (shares_of surplus gaps) ≤ k = omega (arith, shares-length surplus gaps) in
            let z : get_or gaps k 0 ≡ 0 = get_or-eq_default gaps 0 {n = k} (omega arith) in
            let y : get_or (shares_of surplus gaps) k 0 ≡ 0 = get_or-eq_default (shares_of surplus gaps) 0 {n = k} m in
            omega (arith, padded-fair.in_gap k (omega (arith, padded-32)), past_end gaps (length gaps) k, past_end (shares_of surplus gaps) (length gaps) k)
      ]

  pub shares_parts : shares_of surplus padded ≡ shares_of surplus gaps ++ zeros (length gaps)
  shares_parts =
      let n : length (shares_of surplus padded) ≡ 32 = shares-length surplus padded ∙ padded-32 in
      let m : length (shares_of surplus gaps ++ zeros (length gaps)) ≡ 32 = length-append (shares_of surplus gaps) (zeros (length gaps))
      ∙ rw (shares-length surplus gaps, ← length-append gaps (zeros (length gaps))) padded-32 in
      ext_get_or 0 (shares_of surplus padded) (shares_of surplus gaps ++ zeros (length gaps)) (n ∙ sym m) (λ k h. share-at k (omega arith))

  fair-in-places : FairShares surplus (gaps ++ zeros (length gaps)) (shares_of surplus gaps ++ zeros (length gaps))
  fair-in-places = rw shares_parts at padded-fair

  handed-same : handed_out surplus (gaps ++ zeros (length gaps)) ≡ handed_out surplus gaps
  unfolding handed_out
  handed-same = rw (sum-padded gaps (length gaps))

  floor-same : (k : ℕ) → floor_at surplus (gaps ++ zeros (length gaps)) k ≡ floor_at surplus gaps k
  floor-same k = rw (handed-same, sum-padded gaps (length gaps), past_end gaps (length gaps) k)

  remainder-same : (k : ℕ) → remainder_at surplus (gaps ++ zeros (length gaps)) k ≡ remainder_at surplus gaps k
  remainder-same k = rw (handed-same, sum-padded gaps (length gaps), past_end gaps (length gaps) k)

  share-same : (k : ℕ) → get_or (shares_of surplus gaps ++ zeros (length gaps)) k 0 ≡ get_or (shares_of surplus gaps) k 0
  share-same k = past_end (shares_of surplus gaps) (length gaps) k

  longer : {k : ℕ} → k < length gaps → k < length (gaps ++ zeros (length gaps))
  longer h = omega (arith, length-append gaps (zeros (length gaps)))

  -- THE SHARES OF ANY GAPS, up to 32 of them, are fair
  pub few-fair : FairShares surplus gaps (shares_of surplus gaps)
  few-fair =
      let f = fair-in-places in
      record {
        count = shares-length surplus gaps;
        handed = sym (sum-padded (shares_of surplus gaps) (length gaps)) ∙ f.handed ∙ ap (least_of surplus) (sum-padded gaps (length gaps));
        floor = λ k h. omega (arith, f.floor k (longer h), floor-same k, share-same k);
        one_more = λ k h. omega (arith, f.one_more k (longer h), floor-same k, share-same k);
        in_gap = λ k h. omega (arith, f.in_gap k (longer h), past_end gaps (length gaps) k, share-same k);
        largest = λ k j h b t z. omega
            (arith, f.largest k j (longer h) (longer b) (omega (arith, floor-same k, share-same k)) (omega (arith, floor-same j, share-same j)), remainder-same k, remainder-same j);
        earlier = λ k j h b t z. omega (arith, f.earlier k j (longer h) b (omega (arith, floor-same k, share-same k)) (omega (arith, floor-same j, share-same j)), remainder-same k, remainder-same j);
      }
