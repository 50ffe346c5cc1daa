-- How many bytes of a block a call uses: some, where the desk is open and there are any, and no more than there are.
use Rattle.std.specs.Prelude.{Ok}
use Prim.Native.Nat.{ℕ, suc, ◌+◌, ◌-◌, ◌≤◌, ◌<◌}
use mathlib.Core.Path.{◌≡◌, refl, sym, ap, subst, ◌∙◌}
use mathlib.Core.Bool.{Bool, true, false, cond}
use mathlib.Core.Logic.{◌⊎◌, inl, inr, ⊎_elim}
use mathlib.Core.List.{List, [], ◌∷◌, ◌++◌, append-nil}
use native.Mathlib.Omega.{arith}
use native.Mathlib.Decide.{ℕ_discrete}
use lib.Dec.{ltb}
use lib.ListN.{length, drop}
use Rattle.lines.specs.Feed.{Outcome, forth, is_none, line_at}
use Rattle.lines.specs.Feed as lines
use Rattle.lines.specs.Gathering.{fresh_of, longer_by, completed}
use Rattle.lines.specs.Turns.{Turn}
use Rattle.lines.specs.declared.Gatherer.{Gatherer}
use Rattle.lines.proofs.FeedLaws.{at-lf, at_other, closed-stays}
use Rattle.sheets.specs.Buffer.{buffer_length}
use Rattle.text.specs.Desk.{line_turn}
use Rattle.text.specs.declared.desk.Desk.{Desk}
use Rattle.feed.specs.Reader.{closed_of, feed_of, reader_of, unfed_of, fed_of, Yields}
use Rattle.feed.specs.Feeding.{Feeds, Through, used_up, closed, call}
use Rattle.feed.specs.declared.Reader.{Reader}
use Rattle.feed.specs.declared.Fed.{Fed}

told : (b : Bool) → (b ≡ true) ⊎ (b ≡ false)
told true = inl refl
told false = inr refl

module _ {D : Type 0} (turn : D → ℕ → List ℕ → Turn D) (shut : D → Bool) where
  one-at-least : (g : Gatherer) (t : Turn D) (next : Outcome D) (text : List ℕ)
      → 0 < (cond {A = Outcome D} (is_none text) (forth 1 next) (record { gatherer = g; desk = t.desk; used = 1; text = text })).used
  one-at-least g t next [] = omega arith
  one-at-least g t next (x ∷ xs) = omega arith

  pub used-some : (block : List ℕ) (g : Gatherer) (d : D) → shut d ≡ false → 0 < length block → 0 < (lines.feed_of turn shut g d block).used
  used-some [] g d o h = absurd (omega arith)
  used-some (byte ∷ bytes) g d o h =
      elim (ℕ_discrete byte 10) [
        | yes lf ↦
            subst (λ (x : Outcome D). 0 < x.used) (sym (at-lf turn shut g d o byte bytes lf))
            (one-at-least (fresh_of (completed g)) (line_at turn d (completed g)) _ (line_at turn d (completed g)).text)
        | no other ↦ subst (λ (x : Outcome D). 0 < x.used) (sym (at_other turn shut g d o byte bytes other)) (omega arith)
      ]

  one_more : (g : Gatherer) (t : Turn D) (next : Outcome D) (text : List ℕ) (n : ℕ) → next.used ≤ n
      → (cond {A = Outcome D} (is_none text) (forth 1 next) (record { gatherer = g; desk = t.desk; used = 1; text = text })).used ≤ suc n
  one_more g t next [] n h = omega arith
  one_more g t next (x ∷ xs) n h = omega arith

  pub used-within : (block : List ℕ) (g : Gatherer) (d : D) → (lines.feed_of turn shut g d block).used ≤ length block
  unfolding lines.feed_of
  used-within [] g d = omega arith
  used-within (byte ∷ bytes) g d =
      ⊎_elim
      (λ e. subst (λ (x : Outcome D). x.used ≤ length (byte ∷ bytes)) (sym (closed-stays turn shut g d (byte ∷ bytes) e)) (omega arith))
      (λ o. elim (ℕ_discrete byte 10) [
        | yes lf ↦
            subst (λ (x : Outcome D). x.used ≤ length (byte ∷ bytes)) (sym (at-lf turn shut g d o byte bytes lf))
            (one_more (fresh_of (completed g)) (line_at turn d (completed g)) _ (line_at turn d (completed g)).text (length bytes)
            (used-within bytes (fresh_of (completed g)) (line_at turn d (completed g)).desk))
        | no other ↦
            subst (λ (x : Outcome D). x.used ≤ length (byte ∷ bytes)) (sym (at_other turn shut g d o byte bytes other)) (omega (arith, used-within bytes (longer_by g byte) d))
      ])
      (told (shut d))

-- ---- what a caller's loop over a block goes by (crates/stream)

pub at_end : (reader : Reader) → Through reader [] reader
at_end reader = record { text = []; feeds = used_up }

pub at_closed : (reader : Reader) (bytes : List ℕ) → closed_of reader.desk ≡ true → Through reader bytes reader
at_closed reader bytes e = record { text = []; feeds = closed e }

-- one call: how much it uses, and what comes of the rest comes of the whole
pub record Called (reader : Reader) (block : List ℕ) (r : Fed) : Type 0 where
  pub within : r.used ≤ length block
  pub some : (n : ℕ) → r.printed ≡ Ok n → closed_of reader.desk ≡ false → 0 < length block → 0 < r.used
  pub on : (last : Reader) → Through r.reader (drop r.used block) last → Through reader block last

unfed : (reader : Reader) (block : List ℕ) → Called reader block (unfed_of reader)
unfed reader block = record {
  within = omega arith;
  some = λ n e o h. absurd (let z : ◌≡◌ {A = ℕ} 0 1 = cc in (omega arith));
  on = λ last t. t;
}

whole : (reader : Reader) (block : List ℕ) → Called reader block (fed_of (feed_of reader block))
whole reader block =
    let o = feed_of reader block in
    record {
      within = used-within line_turn closed_of block reader.gatherer reader.desk;
      some = λ n e o h. used-some line_turn closed_of block reader.gatherer reader.desk o h;
      on = λ last t. record {
        text = o.text ++ t.text;
        feeds = subst (λ (l : List ℕ). Feeds reader l (o.text ++ t.text) last) (append-nil block)
            (call block [] (subst (λ (l : List ℕ). Feeds (reader_of o) l t.text last) (sym (append-nil (drop o.used block))) t.feeds));
      };
    }

pub called : {out out' : List ℕ} {reader : Reader} {block : List ℕ} {r : Fed} → Yields out reader (feed_of reader block) r out' → Called reader block r
called {out} {out'} {reader} {block} {r} y = go (ltb (length out) buffer_length) y.answer
  where
    go : (short : Bool) → r ≡ cond short (unfed_of reader) (fed_of (feed_of reader block)) → Called reader block r
    go true e = rw e (unfed reader block)
    go false e = rw e (whole reader block)
