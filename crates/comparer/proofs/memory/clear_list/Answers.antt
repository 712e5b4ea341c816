use native.Mathlib.Omega.{arith}
use Prim.Native.Nat.{ℕ, ◌+◌, ◌*◌}
use mathlib.Core.Path.{refl, sym, ap, ◌∙◌}
use mathlib.Core.List.{List}
use Rattle.comparer.specs.Laying.{emptied}
use Rattle.comparer.proofs.Clearing.{emptied_again, emptied_to, ended_all, ended_here}
use Rattle.comparer.proofs.memory.clear_list.Goals as goal

pub clear_words-requires : goal.clear_words-requires
clear_words-requires c = let k = c.requires.long in omega arith

pub loop-at-init : goal.loop-at-init
loop-at-init c = let k = c.requires.long in let e = c.clear_words.ensures c.args.list.now (omega arith) refl in (omega arith, (0, omega arith, e ∙ emptied_again 98 c.args.list.now (omega arith) ∙ ap (λ (l : List ℕ). emptied 98 l) (sym e)))

pub returns-then-list-at-eq0 : goal.returns-then-list-at-eq0
returns-then-list-at-eq0 c = let v = c.loop-at.invariant in let k = c.requires.long in ended_here c.args.list.now c.clear_words.new.list c.loop-at.list c.loop-at.at c.requires (c.clear_words.ensures c.args.list.now (omega arith) refl) (emptied_to c.clear_words.new.list c.loop-at.list c.loop-at.at (98 + 192 * v.1.0) v.1.2 v.1.1) (omega arith) v.0 (64 * v.1.0) (omega (arith, v.1.1)) c.if-list-at-eq0.true

pub clear_words-requires-in-loop-at : goal.clear_words-requires-in-loop-at
clear_words-requires-in-loop-at c = let v = c.loop-at.invariant in let q = v.1.1 in let k = c.requires.long in omega arith

pub loop-at-preserved : goal.loop-at-preserved
loop-at-preserved c = let v = c.loop-at.invariant in let q = v.1.1 in let k = c.requires.long in (omega arith, (v.1.0 + 1, omega arith, emptied_to c.clear_words.new.list _ (98 + 192 * (v.1.0 + 1)) (c.loop-at.at + 192) (c.clear_words-in-loop-at.ensures c.clear_words.new.list (omega arith) (emptied_to c.clear_words.new.list c.loop-at.list c.loop-at.at (98 + 192 * v.1.0) v.1.2 v.1.1)) (omega arith)))

pub returns : goal.returns
returns c = let v = c.loop-at.invariant in let k = c.requires.long in let q = v.1.1 in ended_all c.args.list.now c.clear_words.new.list c.loop-at.list c.loop-at.at c.requires (c.clear_words.ensures c.args.list.now (omega arith) refl) (emptied_to c.clear_words.new.list c.loop-at.list c.loop-at.at (98 + 192 * v.1.0) v.1.2 v.1.1) (omega arith) v.0 (omega arith)
