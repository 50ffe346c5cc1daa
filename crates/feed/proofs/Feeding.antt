-- THE PROMISE OF THIS CRATE: whoever feeds an input to a reader, cut in any way, and says where it ended, has printed `settle` of the input.
use Prim.Native.Nat.{ℕ, ◌≤◌, ◌<◌, ◌^◌}
use mathlib.Core.Path.{◌≡◌, refl, sym, ap, ◌∙◌}
use mathlib.Core.Bool.{true}
use mathlib.Core.List.{List, [], ◌∷◌, ◌++◌, append_assoc, append-nil}
use native.Mathlib.Decide.{ℕ_discrete}
use lib.ListN.{length, take, drop}
use lib.Seq.{take_at}
use Rattle.lines.specs.Feed.{Outcome}
use Rattle.lines.specs.Gathering.{fresh_of, longer_by, completed}
use Rattle.lines.specs.Handing.{Progress, after_bytes}
use Rattle.lines.specs.Lines.{lines_of}
use Rattle.lines.specs.declared.Gatherer.{Gatherer}
use Rattle.lines.proofs.Calls.{after-end, after-other}
use Rattle.lines.proofs.FeedMeaning.{handle_by, at, goes-on-after}
use Rattle.sheets.specs.Buffer.{buffer_length, length_of}
use Rattle.sheets.proofs.Yielding.{answers, puts}
use Rattle.text.specs.Desk.{Turn, line_turn, finish_turn}
use Rattle.text.specs.Settle.{and_then, with_end, settle}
use Rattle.text.specs.declared.desk.Desk.{Desk}
use Rattle.text.proofs.Telling.{line-closed, finish-closed}
use Rattle.text.proofs.WholeInput.{settles}
use Rattle.feed.specs.Reader.{empty_reader, closed_of, feed_of, finish_of, Yields}
use Rattle.feed.specs.Feeding.{Feeds, used_up, closed, call}
use Rattle.feed.specs.declared.Reader.{Reader}
use Rattle.feed.specs.declared.Fed.{Fed}

-- ---- a closed desk prints nothing

module _ (d : Desk) (shut : closed_of d ≡ true) where
  handled : (so : List ℕ) (g : Gatherer) → handle_by line_turn (record { desk = d; text = so }) g ≡ record { desk = d; text = so }
  handled so g =
      ap (λ (t : Turn). record { desk = t.desk; text = so ++ t.text }) (line-closed d shut g.count _)
      ∙ ap (λ (l : List ℕ). record { desk = d; text = l }) (append-nil so)

  after-closed : (bytes : List ℕ) (g : Gatherer) (so : List ℕ) → (after_bytes (handle_by line_turn) (at g d so) bytes).state ≡ record { desk = d; text = so }
  unfolding after_bytes
  after-closed [] g so = refl
  after-closed (byte ∷ bytes) g so =
      elim (ℕ_discrete byte 10) [
        | yes lf ↦
            ap (λ (p : Progress Turn). p.state) (after-end (handle_by line_turn) byte bytes (at g d so) lf)
            ∙ ap (λ (t : Turn). (after_bytes (handle_by line_turn) (record { gatherer = fresh_of (completed g); state = t }) bytes).state) (handled so (completed g))
            ∙ after-closed bytes (fresh_of (completed g)) so
        | no other ↦
            ap (λ (p : Progress Turn). p.state) (after-other (handle_by line_turn) byte bytes (at g d so) other)
            ∙ after-closed bytes (longer_by g byte) so
      ]

-- ---- all calls, and the input's end

-- what is printed in the end by whoever reads byte by byte
abbrev ended : Progress Turn → List ℕ
ended p = (with_end p.state p.gatherer.count).text

closed-end : (p : Progress Turn) (d : Desk) (so : List ℕ) → closed_of d ≡ true → p.state ≡ record { desk = d; text = so } → ended p ≡ so
unfolding with_end and_then
closed-end p d so shut e =
    ap (λ (t : Turn). t.text ++ (finish_turn t.desk p.gatherer.count).text) e
    ∙ ap (λ (t : Turn). so ++ t.text) (finish-closed d shut p.gatherer.count)
    ∙ append-nil so

fed : {reader last : Reader} {input text : List ℕ} → Feeds reader input text last → (so : List ℕ)
    → so ++ (text ++ (finish_of last).text) ≡ ended (after_bytes (handle_by line_turn) (at reader.gatherer reader.desk so) input)
unfolding with_end and_then after_bytes
fed used_up so = refl
fed (closed {reader} {left} shut) so =
    ap (λ (t : Turn). so ++ t.text) (finish-closed reader.desk shut reader.gatherer.count)
    ∙ append-nil so
    ∙ sym (closed-end (after_bytes (handle_by line_turn) (at reader.gatherer reader.desk so) left) reader.desk so shut (after-closed reader.desk shut left reader.gatherer so))
fed (call {reader} {last} {text} block others f) so =
    let o = feed_of reader block in
    ap (λ (l : List ℕ). so ++ l) (append_assoc o.text text (finish_of last).text)
    ∙ sym (append_assoc so o.text (text ++ (finish_of last).text))
    ∙ fed f (so ++ o.text)
    ∙ ap ended (sym (goes-on-after line_turn closed_of block others reader.gatherer reader.desk so))

-- FED IN ANY PIECES, AN INPUT PRINTS WHAT `settle` SAYS
pub fed-settles : {input text : List ℕ} {last : Reader} → length (lines_of input) < 2 ^ 64 → Feeds empty_reader input text last → text ++ (finish_of last).text ≡ settle input
unfolding empty_reader
fed-settles {input} few f = fed f [] ∙ settles input few

-- WHAT A CALLER WRITES OUT is what was printed, as many bytes of the buffer as the call says
pub written_out : {out out' : List ℕ} {reader : Reader} {o : Outcome Desk} {r : Fed} → buffer_length ≤ length out → Yields out reader o r out' → take (length_of r.printed) out' ≡ o.text
written_out {out} {out'} {reader} {o} {r} h y =
    ap (λ (f : Fed). take (length_of f.printed) out') (answers h y)
    ∙ ap (take (length o.text)) (puts h y)
    ∙ take_at o.text (drop (length o.text) out) (length o.text) refl
