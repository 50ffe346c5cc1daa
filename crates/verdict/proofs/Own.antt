-- Our own shares, written as U lines behind an accepted input, are accepted.
-- Assumes nothing.
use Prim.Native.Nat.{ℕ, zero, suc, ◌+◌, ◌*◌, ◌^◌, ◌≤◌, ◌<◌}
use mathlib.Core.Path.{◌≡◌, refl, sym, ap, ◌∙◌}
use mathlib.Core.Bool.{true, ◌&&◌}
use mathlib.Core.List.{List, [], ◌∷◌, ◌++◌, append_assoc, append-nil}
use native.Mathlib.Omega.{arith}
use native.Mathlib.Nat.{zero-mul, suc-mul, mul-le-mul_right, div-lt_iff_lt-mul}
use native.Mathlib.Decide.{dec_le, dec_lt}
use lib.Dec.{leb}
use lib.IntN.{ℤ, pos}
use lib.ListN.{length, drop, length-append, length-drop}
use lib.Seq.{take-append-le, drop-append-le, drop_at, drop-append-add, take_at, take_all}
use borrow.Author.Tests.{le-ltb, leb-true}
use Rattle.std.specs.Prelude.{Some}
use Rattle.arithmetic.specs.Whole.{least_of, up, down}
use Rattle.arithmetic.specs.Energy.{kwh_of}
use Rattle.arithmetic.proofs.Booleans.{true-false, both}
use Rattle.series.specs.Scan.{each}
use Rattle.series.specs.Sums.{over_of, sum_of}
use Rattle.series.proofs.Scanned.{each-length}
use Rattle.shares.proofs.Acceptance.{own-acceptable, tested-acceptable}
use Rattle.vocabulary.specs.declared.direction.Direction.{Direction}
use Rattle.vocabulary.specs.declared.direction.Direction.TheVariants.{Positive, Negative}
use Rattle.values.specs.declared.value.Quantity.TheVariants.{Surplus}
use Rattle.contracts.specs.Identifier.{identifier_byte, identifier_bytes, well_formed}
use Rattle.contracts.proofs.Identifiers.{other}
use Rattle.print.specs.Decimal.{digits, number_text}
use Rattle.print.specs.Fields.{tabbed}
use Rattle.sheets.specs.Sheet.{letter_of}
use Rattle.fields.specs.Fields.{fields, field_at}
use Rattle.fields.specs.Numbers.{number_of}
use Rattle.lines.specs.Lines.{lines_of}
use Rattle.lines.proofs.LineLaws.{Written, last, ended, read_back, written}
use Rattle.reading.specs.Line.{is_letter, direction_of, line_of}
use Rattle.reading.specs.Share.{share_of, whose_of, asked_of}
use Rattle.quarter.specs.Quarter.{share_in}
use Rattle.meaning.specs.Figures.{gap_of_claim, shares_by, pool_by}
use Rattle.meaning.specs.Given.{Deal, Given, deals_in, quarters_in, seconds_in, powers_in, terms_in, claims_in, shares_in, lines_in, pool_in}
use Rattle.meaning.specs.Meaning.{SoFar, nothing, these}
use Rattle.meaning.specs.Endings.{Each, of_none, of_more, FairDeal, Proper, Accepts, Ends, by_end, whole, AcceptedInput}
use Rattle.meaning.proofs.Endings.{ends}
use Rattle.settlement.proofs.HeaderLaws.{opened-quarters}
use Rattle.meaning.proofs.Figures.{sum_fits, lines-count, fair-deals, shares-fair, few-terms, claims-count}
use Rattle.meaning.proofs.Held.{shares-on-lines}
use Rattle.join.proofs.NumberBack.{Visible, number-visible, number-back, number_short}
use Rattle.join.proofs.BlockBack.{fields_back, line-written}
use Rattle.verdict.specs.Wanted.{Wanted, wanted_of, wanted_up_to, per_quarter_hour, shares_before, shares_at, surplus_in, gaps_in}
use Rattle.verdict.specs.Promises.{SaysShares, SharesSaid, AllAcceptable, share_text, shares_text, own_text, stop_after, until_end, as_text, with_own_shares}
use Rattle.verdict.specs.Checked.{checked}
use Rattle.verdict.proofs.Inputs.{proper-of, acceptable-accepted}
use Rattle.sheets.specs.Verdict.{accepted_text}
use Rattle.reading.specs.declared.Line.{Line}
use Rattle.lines.proofs.LineLaws as W
use Rattle.reading.specs.declared.share.Asked.TheVariants as A
use Rattle.meaning.specs.Endings as E
use Rattle.reading.specs.declared.Line.TheVariants as L
use Rattle.verdict.specs.Promises as P

-- ---- the bytes of an identifier are neither a tab nor an LF

byte-visible : (b : ℕ) → identifier_byte b ≡ true → Visible b
byte-visible b e = go (dec_le 45 b)
  where
    go : Dec (45 ≤ b) → 45 ≤ b
    go (yes h) = h
    go (no h) = true-false e (other b (λ l m. omega arith) (λ l m. omega arith) (λ l m. omega arith) (λ l. omega arith))

bytes-visible : (s : List ℕ) → identifier_bytes s ≡ true → Each Visible s
unfolding identifier_bytes
bytes-visible [] e = of_none
bytes-visible (b ∷ s) e =
    let p = both (identifier_byte b) (identifier_bytes s) e in
    of_more (byte-visible b p.0) (bytes-visible s p.1)

record Name (s : List ℕ) : Type 0 where
  visible : Each Visible s
  short : length s ≤ 16

name_of : (s : List ℕ) → well_formed s ≡ true → Name s
unfolding well_formed
name_of s e =
    let p = both (leb 1 (length s) && leb (length s) 16) (identifier_bytes s) e in
    record { visible = bytes-visible s p.1; short = leb-true (length s) 16 (both (leb 1 (length s)) (leb (length s) 16) p.0).1 }

-- ---- one U line, written and read back

module _ (q : ℕ) (d : Direction) (identifier : List ℕ) (share : ℕ) where
  abbrev share_fields : List (List ℕ)
  share_fields = digits q ∷ (letter_of d ∷ []) ∷ identifier ∷ digits share ∷ []

  abbrev share_bytes : List ℕ
  share_bytes = 85 ∷ tabbed share_fields

  letter-visible : (d : Direction) → Each Visible (letter_of d ∷ [])
  letter-visible Positive = let v : Visible 80 = omega arith in of_more v of_none
  letter-visible Negative = let v : Visible 78 = omega arith in of_more v of_none

  module _ (name : Name identifier) where
    fields-visible : Each (Each Visible) share_fields
    unfolding number_text
    fields-visible = of_more (number-visible (pos q)) (of_more (letter-visible d) (of_more name.visible (of_more (number-visible (pos share)) of_none)))

    fields-found : fields share_bytes ≡ (85 ∷ []) ∷ share_fields
    fields-found = let v : Visible 85 = omega arith in fields_back (of_more v of_none) fields-visible

    share-whose : whose_of share_bytes ≡ identifier
    unfolding whose_of field_at
    share-whose = rw fields-found

    share-written : {lines : List (List ℕ)} {input : List ℕ} → Written lines input → Written (share_bytes ∷ lines) (share_text q d identifier share ++ input)
    unfolding share_text
    share-written w = let v : Visible 85 = omega arith in line-written 85 v fields-visible w

    module _ (early : q < 10 ^ 9) (small : share < 10 ^ 9) where
      share-length : length share_bytes ≤ 80
      unfolding tabbed number_text up down
      share-length =
          omega (
            arith,
            name.short,
            length-append (digits q) (9 ∷ ((letter_of d ∷ []) ++ (9 ∷ (identifier ++ (9 ∷ (digits share ++ [])))))),
            length-append identifier (9 ∷ (digits share ++ [])),
            length-append (digits share) [],
            number_short 8 (pos q) early (omega arith),
            number_short 8 (pos share) small (omega arith),
          )

      direction-back : (d : Direction) → direction_of (letter_of d ∷ []) ≡ Some d
      unfolding direction_of is_letter
      direction-back Positive = refl
      direction-back Negative = refl

      share-asked : asked_of share_bytes ≡ A.Share (record { quarter = pos q; direction = d; kwh = pos share })
      unfolding asked_of share_of is_letter field_at number_of number_text up down
      share-asked =
          rw (
            le-ltb 80 (length share_bytes) share-length,
            fields-found,
            number-back 8 (pos q) (omega arith) early (omega arith),
            direction-back d,
            number-back 8 (pos share) (omega arith) small (omega arith),
          )

-- ---- the U lines of a direction

unfoldable side_bytes : ℕ → Direction → List Deal → List ℕ → List (List ℕ)
side_bytes q d [] shares = []
side_bytes q d (x ∷ xs) [] = []
side_bytes q d (x ∷ xs) (share ∷ shares) = share_bytes q d x.identifier share ∷ side_bytes q d xs shares

side-written : (q : ℕ) (d : Direction) {xs : List Deal} (shares : List ℕ) → Each FairDeal xs → {lines : List (List ℕ)} {input : List ℕ} → Written lines input
    → Written (side_bytes q d xs shares ++ lines) (shares_text q d xs shares ++ input)
unfolding side_bytes shares_text
side-written q d shares of_none w = w
side-written q d [] (of_more f fs) w = w
side-written q d (share ∷ shares) (of_more {x} {xs} f fs) {lines} {input} w =
    rw (append_assoc (share_text q d x.identifier share) (shares_text q d xs shares) input)
    (share-written q d x.identifier share (name_of x.identifier f.named) (side-written q d shares fs w))

abbrev Little : ℕ → Type 0
Little share = share < 10 ^ 9

side-says : (q : ℕ) (d : Direction) → q < 10 ^ 9 → {xs : List Deal} {shares : List ℕ} → Each FairDeal xs → Each Little shares → length shares ≡ length xs
    → SaysShares (side_bytes q d xs shares) (each (wanted_of q d) xs) (each pos shares)
unfolding side_bytes each
side-says q d early of_none of_none e = P.none
side-says q d early of_none (of_more l ls) e = absurd (omega arith)
side-says q d early (of_more f fs) of_none e = absurd (omega arith)
side-says q d early (of_more {x} {xs} f fs) (of_more {x = share} l ls) e =
    let name = name_of x.identifier f.named in
    P.more (record { quarter = pos q; direction = d; kwh = pos share }) (share-asked q d x.identifier share name early l) refl refl (share-whose q d x.identifier share name)
    (side-says q d early fs ls (omega arith))

says_both : {a b : List (List ℕ)} {ws vs : List Wanted} {x y : List ℤ} → SaysShares a ws x → SaysShares b vs y → SaysShares (a ++ b) (ws ++ vs) (x ++ y)
says_both P.none r = r
says_both (P.more s e q d i l) r = P.more s e q d i (says_both l r)

-- ---- ZU of the K lines of what was given

abbrev own_in : Direction → Given → ℕ → List ℕ
own_in d g q = each share_in (lines_in d g q)

unfoldable own_bytes : Given → ℕ → List (List ℕ)
own_bytes g zero = []
own_bytes g (suc q) = own_bytes g q ++ (side_bytes q Positive g.positives (own_in Positive g q) ++ side_bytes q Negative g.negatives (own_in Negative g q))

unfoldable pub own_shares : Given → ℕ → List ℤ
own_shares g zero = []
own_shares g (suc q) = own_shares g q ++ (each pos (own_in Positive g q) ++ each pos (own_in Negative g q))

each_all : {X : Type 0} {P : X → Type 0} (xs : List X) → ((x : X) → P x) → Each P xs
each_all [] f = of_none
each_all (x ∷ xs) f = of_more (f x) (each_all xs f)

few-each : (xs : List ℕ) (m : ℕ) → sum_of xs ≤ m → m < 10 ^ 9 → Each Little xs
unfolding over_of
few-each [] m h l = of_none
few-each (x ∷ xs) m h l = let s : x < 10 ^ 9 = omega arith in of_more s (few-each xs m (omega arith) l)

module _ (g : Given) (p : Proper g) where
  own_is : (d : Direction) (q : ℕ) → own_in d g q ≡ shares_in d g q
  unfolding lines_in
  own_is d q = shares-on-lines (seconds_in g) (powers_in d g q) (terms_in d g)

  own-count : (d : Direction) (q : ℕ) → length (own_in d g q) ≡ length (deals_in d g)
  own-count d q = each-length share_in (lines_in d g q) ∙ lines-count g p q d

  -- a share is at most the surplus, which has nine digits at most
  surplus-little : (d : Direction) (q : ℕ) → surplus_in d g q < 10 ^ 9
  unfolding pool_in pool_by kwh_of
  surplus-little d q =
      let few : seconds_in g * sum_of (powers_in d g q Surplus) + 9720000 < 10 ^ 9 * 19440000 = omega (arith, sum_fits g p q d Surplus) in
      (div-lt_iff_lt-mul {k = 19440000} {x = seconds_in g * sum_of (powers_in d g q Surplus) + 9720000} {y = 10 ^ 9} (omega arith)).1 few

  own-little : (d : Direction) (q : ℕ) → Each Little (own_in d g q)
  unfolding least_of
  own-little d q = few-each (own_in d g q) (surplus_in d g q) (rw (own_is d q) (omega (arith, (shares-fair g p q d).handed))) (surplus-little d q)

  own-written : (n : ℕ) {lines : List (List ℕ)} {input : List ℕ} → Written lines input → Written (own_bytes g n ++ lines) (own_text g n ++ input)
  unfolding own_bytes own_text
  own-written zero w = w
  own-written (suc q) {lines} {input} w =
      rw (
        append_assoc (own_bytes g q) (side_bytes q Positive g.positives (own_in Positive g q) ++ side_bytes q Negative g.negatives (own_in Negative g q)) lines,
        append_assoc (side_bytes q Positive g.positives (own_in Positive g q)) (side_bytes q Negative g.negatives (own_in Negative g q)) lines,
        append_assoc (own_text g q) (shares_text q Positive g.positives (own_in Positive g q) ++ shares_text q Negative g.negatives (own_in Negative g q)) input,
        append_assoc (shares_text q Positive g.positives (own_in Positive g q)) (shares_text q Negative g.negatives (own_in Negative g q)) input,
      )
      (own-written q (side-written q Positive (own_in Positive g q) (fair-deals g p Positive) (side-written q Negative (own_in Negative g q) (fair-deals g p Negative) w)))

  own-says : (n : ℕ) → n ≤ 10 ^ 9 → SaysShares (own_bytes g n) (wanted_up_to g n) (own_shares g n)
  unfolding own_bytes wanted_up_to own_shares
  own-says zero h = P.none
  own-says (suc q) h =
      says_both (own-says q (omega arith))
      (says_both (side-says q Positive (omega arith) (fair-deals g p Positive) (own-little Positive q) (own-count Positive q))
      (side-says q Negative (omega arith) (fair-deals g p Negative) (own-little Negative q) (own-count Negative q)))

  -- ---- the shares of a direction of a quarter hour, found again among all of them

  own-length : (n : ℕ) → length (own_shares g n) ≡ n * per_quarter_hour g
  unfolding own_shares
  own-length zero = omega (arith, zero-mul (per_quarter_hour g))
  own-length (suc q) =
      omega (
        arith,
        length-append (own_shares g q) (each pos (own_in Positive g q) ++ each pos (own_in Negative g q)),
        length-append (each pos (own_in Positive g q)) (each pos (own_in Negative g q)),
        each-length pos (own_in Positive g q),
        each-length pos (own_in Negative g q),
        own-count Positive q,
        own-count Negative q,
        own-length q,
        suc-mul q (per_quarter_hour g),
      )

  pub place-within : (d : Direction) (q n : ℕ) → q < n → shares_before d g q + length (deals_in d g) ≤ n * per_quarter_hour g
  place-within Positive q n h = let l : suc q ≤ n = h in omega (arith, mul-le-mul_right (per_quarter_hour g) l, suc-mul q (per_quarter_hour g))
  place-within Negative q n h = let l : suc q ≤ n = h in omega (arith, mul-le-mul_right (per_quarter_hour g) l, suc-mul q (per_quarter_hour g))

  pub still-there : (d : Direction) (q : ℕ) (a b : List ℤ) → shares_before d g q + length (deals_in d g) ≤ length a → shares_at d g q (a ++ b) ≡ shares_at d g q a
  unfolding shares_at
  still-there d q a b h =
      rw (drop-append-le (shares_before d g q) a b (omega arith))
      (take-append-le (length (deals_in d g)) (drop (shares_before d g q) a) b (omega (arith, length-drop (shares_before d g q) a)))

  earlier-there : (d : Direction) (q n : ℕ) → q < n → shares_at d g q (own_shares g (suc n)) ≡ shares_at d g q (own_shares g n)
  unfolding own_shares
  earlier-there d q n h =
      still-there d q (own_shares g n) (each pos (own_in Positive g n) ++ each pos (own_in Negative g n)) (omega (arith, own-length n, place-within d q n h))

  newest-there : (d : Direction) (q : ℕ) → shares_at d g q (own_shares g (suc q)) ≡ each pos (own_in d g q)
  unfolding shares_at own_shares
  newest-there Positive q =
      let n : length (own_shares g q) ≡ q * per_quarter_hour g = own-length q in
      let k : length (each pos (own_in Positive g q)) ≡ length g.positives = each-length pos (own_in Positive g q) ∙ own-count Positive q in
      rw (drop_at (own_shares g q) (each pos (own_in Positive g q) ++ each pos (own_in Negative g q)) (q * per_quarter_hour g) n)
      (take_at (each pos (own_in Positive g q)) (each pos (own_in Negative g q)) (length g.positives) k)
  newest-there Negative q =
      let n : length (own_shares g q) ≡ q * per_quarter_hour g = own-length q in
      let k : length (each pos (own_in Positive g q)) ≡ length g.positives = each-length pos (own_in Positive g q) ∙ own-count Positive q in
      let m : length (each pos (own_in Negative g q)) ≡ length g.negatives = each-length pos (own_in Negative g q) ∙ own-count Negative q in
      rw (
        ← n,
        drop-append-add (own_shares g q) (each pos (own_in Positive g q) ++ each pos (own_in Negative g q)) (length g.positives),
        drop_at (each pos (own_in Positive g q)) (each pos (own_in Negative g q)) (length g.positives) k,
      )
      (take_all (length g.negatives) (each pos (own_in Negative g q)) (omega arith))

  own-there : (d : Direction) (q n : ℕ) → q < n → shares_at d g q (own_shares g n) ≡ each pos (own_in d g q)
  own-there d q zero h = absurd (omega arith)
  own-there d q (suc n) h = go (dec_lt q n) (own-there d q n)
    where
      go : Dec (q < n) → (q < n → shares_at d g q (own_shares g n) ≡ each pos (own_in d g q)) → shares_at d g q (own_shares g (suc n)) ≡ each pos (own_in d g q)
      go (yes l) before = earlier-there d q n l ∙ before l
      go (no l) before = let e : n ≡ q = omega arith in rw e (newest-there d q)

  -- ---- OUR OWN SHARES ARE ACCEPTABLE, in every quarter hour and direction

  pub own-all : AllAcceptable g (own_shares g (quarters_in g))
  unfolding pool_in pool_by shares_by
  own-all q h d =
      let few : length (gaps_in d g q) ≤ 32 = omega (arith, each-length gap_of_claim (claims_in d g q), claims-count (seconds_in g) (powers_in d g q) (terms_in d g), few-terms g p q d) in
      let fits = own-acceptable (surplus_in d g q) (gaps_in d g q) few in
      rw (own-there d q (quarters_in g) h, own_is d q) (tested-acceptable (surplus_in d g q) (gaps_in d g q) (each pos (shares_in d g q)) fits)

-- ---- an input up to its E, with lines behind it

until-written : {lines : List (List ℕ)} {input : List ℕ} → Written lines input → {others : List (List ℕ)} {rest : List ℕ} → Written others rest
    → Written (until_end lines ++ others) (as_text (until_end lines) ++ rest)
unfolding until_end as_text
until-written (last n) w = w
until-written (ended {line} {lines} {input} n v) {others} {rest} w = go (line_of line) (until-written v w)
  where
    go : (said : Line) → Written (until_end lines ++ others) (as_text (until_end lines) ++ rest)
        → Written (line ∷ (stop_after said (until_end lines) ++ others)) ((line ++ (10 ∷ as_text (stop_after said (until_end lines)))) ++ rest)
    go L.End r = rw (append_assoc line (10 ∷ []) rest) (ended n w)
    go (L.Header h) r = rw (append_assoc line (10 ∷ as_text (until_end lines)) rest) (ended n r)
    go (L.Bounds bounds) r = rw (append_assoc line (10 ∷ as_text (until_end lines)) rest) (ended n r)
    go (L.Setpoint s) r = rw (append_assoc line (10 ∷ as_text (until_end lines)) rest) (ended n r)
    go (L.Contract c) r = rw (append_assoc line (10 ∷ as_text (until_end lines)) rest) (ended n r)
    go (L.Sample x) r = rw (append_assoc line (10 ∷ as_text (until_end lines)) rest) (ended n r)
    go L.Malformed r = rw (append_assoc line (10 ∷ as_text (until_end lines)) rest) (ended n r)

stop-not : (said : Line) (rest : List (List ℕ)) → (said ≡ L.End → ⊥) → stop_after said rest ≡ rest
stop-not (L.Header h) rest n = refl
stop-not (L.Bounds bounds) rest n = refl
stop-not (L.Setpoint s) rest n = refl
stop-not (L.Contract c) rest n = refl
stop-not (L.Sample x) rest n = refl
stop-not L.End rest n = absurd (n refl)
stop-not L.Malformed rest n = refl

until-is : {so last : SoFar} {before : List (List ℕ)} → Accepts so before last → (end : List ℕ) (rest : List (List ℕ)) → line_of end ≡ L.End
    → until_end (before ++ (end ∷ rest)) ≡ before ++ (end ∷ [])
unfolding until_end
until-is E.none end rest e = rw e
until-is (E.more {line} {lines} ok n l) end rest e =
    ap (λ (ls : List (List ℕ)). line ∷ ls) (stop-not (line_of line) (until_end (lines ++ (end ∷ rest))) n ∙ until-is l end rest e)

own-said : (input : List ℕ) (g : Given) → Ends nothing 0 (lines_of input) (whole (these g)) → SharesSaid (with_own_shares input g) g (own_shares g (quarters_in g))
own-said input g (by_end before line rest split accepts l ok) =
    let p : Proper g = proper-of accepts in
    let own : List (List ℕ) = own_bytes g (quarters_in g) ++ [] in
    let w = until-written (written input) (own-written g p (quarters_in g) (last W.none)) in
    let up_to : until_end (lines_of input) ≡ before ++ (line ∷ []) = ap until_end split ∙ until-is accepts line rest l in
    record {
      before = before;
      end = line;
      after = own_bytes g (quarters_in g) ++ [];
      lines = ap (λ (text : List ℕ). lines_of (as_text (until_end (lines_of input)) ++ text)) (sym (append-nil (own_text g (quarters_in g))))
          ∙ read_back w
          ∙ ap (λ (ls : List (List ℕ)). ls ++ own) up_to
          ∙ append_assoc before (line ∷ []) own;
      accepts = accepts;
      ends = l;
      complete = ok;
      said = rw (append-nil (own_bytes g (quarters_in g))) (own-says g p (quarters_in g) (omega (arith, (opened-quarters g.header p.header).1)));
    }

-- OUR OWN SHARES ARE ALWAYS ACCEPTED: behind the lines of an accepted input up to its E
pub own-shares-accepted : (input : List ℕ) (g : Given) → AcceptedInput input g → checked (with_own_shares input g) ≡ accepted_text (quarters_in g)
own-shares-accepted input g a =
    acceptable-accepted (own-said input g (rw a.ends at (ends input))) (own-all g a.proper)
