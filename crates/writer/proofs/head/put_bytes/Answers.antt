use mathlib.Core.Path.{refl, ap, ◌∙◌}
use Prim.Native.Nat.{ℕ, ◌+◌, ◌-◌, ◌%◌}
use mathlib.Core.List.{◌∷◌, []}
use lib.ListN.{get_or}
use Rattle.writer.specs.Records.{extents_at}
use Rattle.writer.proofs.Writing.{writing_put, words_next, put_one}
use Rattle.writer.proofs.head.put_bytes.Goals as goal

pub loop-k-preserved : goal.loop-k-preserved
loop-k-preserved c =
    let a = c.args in
    let l = c.loop-k in
    let p = c.requires in
    writing_put (extents_at a.list.now a.at a.n) a.out.now (extents_at a.list.now (a.at + l.k) (a.n - l.k)) l.k l.out l.invariant (get_or a.list.now (a.at + l.k) 0 ∷ []) (extents_at a.list.now (a.at + (l.k + 1)) (a.n - (l.k + 1))) _ (l.k + 1) (words_next a.list.now a.at a.n l.k p.0 c.loop-k-test.true) (put_one l.out l.k (get_or a.list.now (a.at + l.k) 0) c.low.result (p.2 l.k c.loop-k-test.true) (c.low.ensures ∙ ap (λ (x : ℕ). x % 256) refl)) refl
