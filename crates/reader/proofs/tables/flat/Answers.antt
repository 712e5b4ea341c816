use Prim.Native.Nat.{ℕ}
use mathlib.Core.Path.{ap, ◌∙◌}
use mathlib.Core.List.{List}
use lib.ListN.{set, replicate, length-replicate}
use lib.Seq.{sets}
use Rattle.reader.specs.Entries.{cut}
use Rattle.reader.proofs.Flattened.{flat_put, put_same}
use Rattle.reader.proofs.tables.flat.Goals as goal

pub returns-clause-numbers : goal.returns-clause-numbers
returns-clause-numbers c =
    let t = c.args.tables in
    put_same 17 _ _ _ _ c.put-5.ensures.long c.put-5.ensures.puts
    ∙ ap (λ (l : List ℕ). sets l 98 (cut 17 0 t.bases)) (put_same 48 _ _ _ _ c.put-4.ensures.long c.put-4.ensures.puts)
    ∙ ap (λ (l : List ℕ). sets (sets l 50 (cut 48 0 t.extents)) 98 (cut 17 0 t.bases)) (put_same 16 _ _ _ _ c.put-3.ensures.long c.put-3.ensures.puts)
    ∙ ap (λ (l : List ℕ). sets (sets (sets l 34 (cut 16 0 t.dimensions)) 50 (cut 48 0 t.extents)) 98 (cut 17 0 t.bases)) (put_same 16 _ _ _ _ c.put-2.ensures.long c.put-2.ensures.puts)
    ∙ ap (λ (l : List ℕ). sets (sets (sets (sets (set l 17 t.arrays) 18 (cut 16 0 t.roles)) 34 (cut 16 0 t.dimensions)) 50 (cut 48 0 t.extents)) 98 (cut 17 0 t.bases)) (put_same 16 _ _ _ _ c.put.ensures.long c.put.ensures.puts)
    ∙ flat_put t (replicate 115 0) (length-replicate {A = ℕ} 115 0)
