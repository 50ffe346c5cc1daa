-- THE PROMISE OF A FEEDING, for a desk of any kind: whoever feeds an input to it, cut in any way, and then says that it ended, has printed what is printed for its
-- lines.
-- Assumes nothing.
use Rattle.std.proofs.Common.{◌≡◌, ℕ, ◌^◌, ◌<◌, Bool, true, List, [], ◌∷◌, ◌++◌, length, sym, refl, ap, ◌∙◌, append_assoc, append-nil}
use native.Mathlib.Decide.{ℕ_discrete}
use Rattle.lines.specs.Gathering.{empty_gatherer, fresh_of, longer_by, completed}
use Rattle.lines.specs.Handing.{Progress, at_start, after_bytes}
use Rattle.lines.specs.Lines.{lines_of, kept_of}
use Rattle.lines.specs.declared.Gatherer.{Gatherer}
use Rattle.lines.specs.Turns.{Turn, quiet}
use Rattle.lines.specs.Feed.{Outcome}
use Rattle.lines.specs.Feeding.{with_line, with_end, printed_for, Feeds, used_up, shut, call}
use Rattle.lines.proofs.Calls.{after-end, after-other}
use Rattle.lines.proofs.Held.{Holds}
use Rattle.lines.proofs.WholeInput.{whole-input, lines-counted}
use Rattle.lines.proofs.FeedMeaning.{handle_by, at, Goes}

-- what a desk has to keep to: closed, it prints nothing and stays as it is; and what is kept of a line says the same as the line
module _ {D : Type 0} (turn : D → ℕ → List ℕ → Turn D) (finish : D → ℕ → Turn D) (closed : D → Bool)
    (line-closed : (d : D) → closed d ≡ true → (n : ℕ) (line : List ℕ) → turn d n line ≡ quiet d)
    (finish-closed : (d : D) → closed d ≡ true → (n : ℕ) → finish d n ≡ quiet d)
    (kept : (d : D) (n : ℕ) (line : List ℕ) → turn d n (kept_of line) ≡ turn d n line) where
  -- ---- a closed desk

  module _ (d : D) (c : closed d ≡ true) where
    handled : (so : List ℕ) (g : Gatherer) → handle_by turn (record { desk = d; text = so }) g ≡ record { desk = d; text = so }
    handled so g =
        ap (λ (t : Turn D). record { desk = t.desk; text = so ++ t.text }) (line-closed d c g.count _)
        ∙ ap (λ (l : List ℕ). record { desk = d; text = l }) (append-nil so)

    after-closed : (bytes : List ℕ) (g : Gatherer) (so : List ℕ) → (after_bytes (handle_by turn) (at g d so) bytes).state ≡ record { desk = d; text = so }
    unfolding after_bytes
    after-closed [] g so = refl
    after-closed (byte ∷ bytes) g so =
        elim (ℕ_discrete byte 10) [
          | yes lf ↦
              ap (λ (p : Progress (Turn D)). p.state) (after-end (handle_by turn) byte bytes (at g d so) lf)
              ∙ ap (λ (t : Turn D). (after_bytes (handle_by turn) (record { gatherer = fresh_of (completed g); state = t }) bytes).state) (handled so (completed g))
              ∙ after-closed bytes (fresh_of (completed g)) so
          | no other ↦
              ap (λ (p : Progress (Turn D)). p.state) (after-other (handle_by turn) byte bytes (at g d so) other)
              ∙ after-closed bytes (longer_by g byte) so
        ]

  -- ---- all calls, and the input's end

  -- what is printed in the end by whoever reads byte by byte
  abbrev ended : Progress (Turn D) → List ℕ
  ended p = with_end turn finish p.state p.gatherer.count

  closed-end : (p : Progress (Turn D)) (d : D) (so : List ℕ) → closed d ≡ true → p.state ≡ record { desk = d; text = so } → ended p ≡ so
  closed-end p d so c e =
      ap (λ (t : Turn D). t.text ++ (finish t.desk p.gatherer.count).text) e
      ∙ ap (λ (t : Turn D). so ++ t.text) (finish-closed d c p.gatherer.count)
      ∙ append-nil so

  module _ (called : Gatherer → D → List ℕ → Outcome D → Type 0)
      (goes_on_lem : (g : Gatherer) (d : D) (block : List ℕ) (o : Outcome D) → called g d block o → (so rest : List ℕ) → Goes turn closed g d so block rest o) where
    fed : {g g' : Gatherer} {d d' : D} {input text : List ℕ} → Feeds closed called g d input text g' d' → (so : List ℕ)
        → so ++ (text ++ (finish d' g'.count).text) ≡ ended (after_bytes (handle_by turn) (at g d so) input)
    unfolding after_bytes
    fed used_up so = refl
    fed (shut {g} {d} {left} c) so =
        ap (λ (t : Turn D). so ++ t.text) (finish-closed d c g.count)
        ∙ append-nil so
        ∙ sym (closed-end (after_bytes (handle_by turn) (at g d so) left) d so c (after-closed d c left g so))
    fed (call {g} {g'} {d} {d'} {text} block others o h f) so =
        ap (λ (l : List ℕ). so ++ l) (append_assoc o.text text (finish d' g'.count).text)
        ∙ sym (append_assoc so o.text (text ++ (finish d' g'.count).text))
        ∙ fed f (so ++ o.text)
        ∙ ap ended (sym (goes_on_lem g d block o h so others))

    step : (so : Turn D) (g : Gatherer) (line : List ℕ) → Holds g line → handle_by turn so g ≡ with_line turn finish so g.count line
    step so g line h =
        ap (λ (l : List ℕ). with_line turn finish so g.count l) h.held
        ∙ ap (λ (t : Turn D). record { desk = t.desk; text = so.text ++ t.text }) (kept so.desk g.count line)

    -- FED IN ANY PIECES, AN INPUT PRINTS WHAT IS PRINTED FOR ITS LINES
    pub fed-prints : {d d' : D} {g' : Gatherer} {input text : List ℕ} → length (lines_of input) < 2 ^ 64 → Feeds closed called empty_gatherer d input text g' d'
        → text ++ (finish d' g'.count).text ≡ printed_for turn finish d (lines_of input)
    unfolding printed_for
    fed-prints {d} {input = input} few f =
        let end : Progress (Turn D) = after_bytes (handle_by turn) (at_start (quiet d)) input in
        fed f []
        ∙ ap (λ (n : ℕ). with_end turn finish end.state n) (lines-counted (handle_by turn) input (quiet d) few)
        ∙ ap (λ (t : Turn D). with_end turn finish t (length (lines_of input))) (whole-input (handle_by turn) (with_line turn finish) step input (quiet d) few)
