-- A call that wants so much room: what it answers with less, and with enough.
-- Assumes nothing.
use Prim.Native.Nat.{ℕ, ◌-◌, ◌≤◌, ◌<◌}
use mathlib.Core.Path.{◌≡◌, sym, ap, subst, ◌∙◌}
use mathlib.Core.Bool.{Bool, cond}
use mathlib.Core.List.{List}
use native.Mathlib.Omega.{arith}
use borrow.Author.Tests.{le-ltb, lt-ltb}
use lib.ListN.{length, drop, length-drop, length-append}
use Rattle.sheets.specs.Buffer.{Printed, length_of, over, Yields}

pub over-length : (text out : List ℕ) → length text ≤ length out → length (over text out) ≡ length out
over-length text out h = length-append text (drop (length text) out) ∙ (let l : length (drop (length text) out) ≡ length out - length text = length-drop (length text) out in omega arith)

module _ {F : Type 0} (printed : F → Printed) (want : ℕ) (out : List ℕ) (none whole : F) (text : List ℕ) where
  pub too_short : length out < want → length_of (printed none) ≡ 0 → Yields printed want out none whole text none out
  too_short h e =
      let c = lt-ltb (length out) want h in
      record {
        answer = sym (ap (λ (b : Bool). cond b none whole) c);
        bytes = sym (ap (λ (b : Bool). cond b out (over text out)) c);
        room = omega (arith, e);
      }

  pub long-enough : {r : F} {out' : List ℕ} → want ≤ length out → r ≡ whole → out' ≡ over text out → length_of (printed whole) ≤ length out → Yields printed want out none whole text r out'
  long-enough h e b few =
      let c = le-ltb (length out) want h in
      record {
        answer = e ∙ sym (ap (λ (b : Bool). cond b none whole) c);
        bytes = b ∙ sym (ap (λ (b : Bool). cond b out (over text out)) c);
        room = subst (λ (f : F). length_of (printed f) ≤ length out) (sym e) few;
      }

-- what a call that was lent enough says
module _ {F : Type 0} {printed : F → Printed} {want : ℕ} {out out' : List ℕ} {none whole r : F} {text : List ℕ} (h : want ≤ length out)
    (y : Yields printed want out none whole text r out') where
  pub answers : r ≡ whole
  answers = y.answer ∙ ap (λ (b : Bool). cond b none whole) (le-ltb (length out) want h)

  pub puts : out' ≡ over text out
  puts = y.bytes ∙ ap (λ (b : Bool). cond b out (over text out)) (le-ltb (length out) want h)

  pub same_length : length_of (printed whole) ≡ length text → length out' ≡ length out
  same_length e =
      let few : length text ≤ length out = omega (arith, y.room, e, ap (λ (f : F). length_of (printed f)) answers) in
      ap length puts ∙ over-length text out few
