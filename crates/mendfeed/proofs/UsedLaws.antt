-- What a caller's loop over a block of a recording goes by (crates/stream).
-- Assumes nothing.
use Rattle.std.proofs.Common.{◌≡◌, ℕ, ◌<◌, ◌≤◌, Bool, true, false, cond, List, [], ◌++◌, Ok, length, drop, ltb, sym, refl, subst, append-nil, arith}
use borrow.Author.Tests.{ltb-false}
use Rattle.lines.specs.Feed.{Outcome}
use Rattle.lines.specs.Feeding.{Feeds, used_up, shut, call}
use Rattle.lines.proofs.WithinLaws.{used-some, used-within}
use Rattle.mending.specs.Mender.{line_room, line_turn}
use Rattle.mendfeed.specs.Reader.{closed_of, feed_of, unfed_of, fed_of, Yields}
use Rattle.mendfeed.specs.Feeding.{Called, Through}
use Rattle.mending.specs.declared.mender.Mender.{Mender}
use Rattle.mendfeed.specs.declared.Reader.{Reader}
use Rattle.mendfeed.specs.declared.Fed.{Fed}

pub at_end : (reader : Reader) → Through reader [] reader
at_end reader = record { text = []; feeds = used_up }

pub at_closed : (reader : Reader) (bytes : List ℕ) → closed_of reader.mender ≡ true → Through reader bytes reader
at_closed reader bytes e = record { text = []; feeds = shut e }

-- one call: how much it uses, and what comes of the rest comes of the whole
pub record Step (reader : Reader) (block : List ℕ) (r : Fed) : Type 0 where
  pub within : r.used ≤ length block
  pub some : (n : ℕ) → r.printed ≡ Ok n → closed_of reader.mender ≡ false → 0 < length block → 0 < r.used
  pub on : (last : Reader) → Through r.reader (drop r.used block) last → Through reader block last

unfed : (reader : Reader) (block : List ℕ) → Step reader block (unfed_of reader)
unfed reader block = record {
  within = omega arith;
  some = λ n e o h. absurd (let z : ◌≡◌ {A = ℕ} 0 1 = cc in (omega arith));
  on = λ last t. t;
}

whole : (room : ℕ) (reader : Reader) (block : List ℕ) → ltb room line_room ≡ false → Step reader block (fed_of (feed_of room reader block))
whole room reader block enough =
    let o : Outcome Mender = feed_of room reader block in
    record {
      within = used-within line_turn closed_of line_room block room reader.gatherer reader.mender;
      some = λ n e shut h. used-some line_turn closed_of line_room block room reader.gatherer reader.mender (rw (shut, enough)) h;
      on = λ last t. record {
        text = o.text ++ t.text;
        feeds = subst (λ (l : List ℕ). Feeds closed_of Called reader.gatherer reader.mender l (o.text ++ t.text) last.gatherer last.mender) (append-nil block)
            (call block [] o (record { room = room; enough = ltb-false room line_room enough; is = refl })
            (subst (λ (l : List ℕ). Feeds closed_of Called o.gatherer o.desk l t.text last.gatherer last.mender) (sym (append-nil (drop o.used block))) t.feeds));
      };
    }

pub step : {out out' : List ℕ} {reader : Reader} {block : List ℕ} {r : Fed} → Yields out reader (feed_of (length out) reader block) r out' → Step reader block r
step {out} {out'} {reader} {block} {r} y = go (ltb (length out) line_room) refl y.answer
  where
    go : (short : Bool) → ltb (length out) line_room ≡ short → r ≡ cond short (unfed_of reader) (fed_of (feed_of (length out) reader block)) → Step reader block r
    go true s e = rw e (unfed reader block)
    go false s e = rw e (whole (length out) reader block s)
