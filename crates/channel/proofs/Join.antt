-- THE JOIN: after any further series, past, bounds and block are those of a run that starts from the block.
-- Assumes nothing.
use Prim.Native.Nat.{ℕ, ◌+◌, ◌<◌}
use mathlib.Core.Path.{◌≡◌, refl, sym, ap, ◌∙◌}
use mathlib.Core.List.{List, [], ◌∷◌, ◌++◌, append_assoc}
use native.Mathlib.Omega.{arith}
use lib.IntN.{ℤ}
use lib.ListN.{length, length-append}
use Rattle.vocabulary.specs.declared.interval.Interval.{Interval}
use Rattle.vocabulary.specs.Interval.{windows_of}
use Rattle.bounds.specs.declared.side.Side.{Side}
use Rattle.bounds.specs.declared.side.Side.TheVariants.{Upper, Lower}
use Rattle.bounds.specs.Side.{next_by}
use Rattle.bounds.proofs.Agreeing.{next-same}
use Rattle.channel.specs.Start.{Block, Start, carried}
use Rattle.channel.specs.Backward.{past, before, past_from, oga_of, uga_of}
use Rattle.channel.specs.Block.{back_to, block_of}
use Rattle.channel.proofs.Series.{series-length, past-behind}
use Rattle.channel.proofs.Back.{some_back, back-length, back-same, back_at_lem}
use Rattle.channel.proofs.Sides.{held_of, Known, held_next}

block-of : {o p u v : ℤ} {ss ts : List ℤ} → o ≡ p → u ≡ v → ss ≡ ts
    → ◌≡◌ {A = Block} (record { oga = o; uga = u; setpoints = ss }) (record { oga = p; uga = v; setpoints = ts })
block-of e d c = rw (e, d, c)

-- a run that has followed the series h from a start, of which something is known, and hands on its block
module _ (i : Interval) (lot : ℕ) (start : Start) (h : List ℤ) (known : Known start h) where
  abbrev handed : Start
  handed = carried (block_of i lot start h)

  block-known : 0 < length (before handed)
  unfolding block_of
  block-known =
      omega (arith, some_back i, series-length [] (back_to (past_from start h) (windows_of i).to), back-length (past_from start h) (windows_of i).to)

  -- the setpoints of the block are the past; where samples are missing, the first one again
  pub block-past : (j : ℕ) → j < (windows_of i).to → past (before handed) j ≡ past_from start h j
  unfolding block_of past
  block-past j l = back_at_lem (past_from start h) (windows_of i).to [] j _ l

  -- the past behind further samples, as far back as the block reaches
  pub past-joined : (b : List ℤ) (k : ℕ) → k < length b + (windows_of i).to → past_from handed b k ≡ past_from start (b ++ h) k
  past-joined b k l =
      past-behind b (before handed) (h ++ before start) (windows_of i).to block-known known block-past k l
      ∙ ap (λ (t : List ℤ). past t k) (sym (append_assoc b h (before start)))

  held-handed : (side : Side) → held_of side i lot handed [] ≡ held_of side i lot start h
  unfolding oga_of uga_of block_of
  held-handed Upper = refl
  held-handed Lower = refl

  held-joined : (side : Side) (b : List ℤ) → held_of side i lot handed b ≡ held_of side i lot start (b ++ h)
  held-joined side [] = held-handed side
  held-joined side (s ∷ b) =
      let f = past_from handed (s ∷ b) in
      let g = past_from start (s ∷ (b ++ h)) in
      held_next i lot side handed s b (omega (arith, length-append b (before handed), block-known))
      ∙ next-same i f g (λ k l. past-joined (s ∷ b) k (omega arith)) side lot (held_of side i lot handed b)
      ∙ ap (next_by side i lot g) (held-joined side b)
      ∙ sym (held_next i lot side start s (b ++ h) (omega (arith, length-append (b ++ h) (before start), length-append b h, length-append h (before start))))

  pub oga-joined : (b : List ℤ) → oga_of i lot handed b ≡ oga_of i lot start (b ++ h)
  oga-joined = held-joined Upper

  pub uga-joined : (b : List ℤ) → uga_of i lot handed b ≡ uga_of i lot start (b ++ h)
  uga-joined = held-joined Lower

  -- the block after further samples is the one that a run from the block hands on
  pub block-joined : (b : List ℤ) → block_of i lot handed b ≡ block_of i lot start (b ++ h)
  unfolding block_of
  block-joined b =
      block-of (oga-joined b) (uga-joined b)
      (back-same (past_from handed b) (past_from start (b ++ h)) (windows_of i).to (λ k l. past-joined b k (omega arith)))
