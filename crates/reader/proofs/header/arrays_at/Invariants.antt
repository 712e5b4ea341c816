use mathlib.Core.Path.{◌≡◌}
use Prim.Native.Nat.{◌-◌, ◌≤◌}
use mathlib.Core.Bool.{false}
use Rattle.reader.specs.Answers.{through}
use Rattle.reader.specs.Grammar.{arrays}
use Rattle.reader.specs.Parts.{stored}
use Rattle.reader.proofs.header.arrays_at.Given as goal

abbrev pub invariant-loop-k : goal.invariant-loop-k
invariant-loop-k l = record {
  says : through (stored l.tables l.k l.before) (arrays (l.n - l.k) l.after l.before l.s l.place) ≡ through (stored l.initial.tables 0 0) (arrays l.n false 0 l.s l.at);
  most : l.before ≤ 2048;
}
