-- What an item of the walk stands in.
use Rattle.std.specs.Prelude.{ℕ, ◌+◌, List, take, set, ℤ}
use Rattle.model.specs.Tables.{Tables}
use Rattle.reader.specs.Entries.{viewed, tables_in}
use Rattle.unroller.specs.declared.walk.Scope.{Scope}

abbrev pub bytes : Scope → List ℕ
bytes scope = scope.program.now

abbrev pub tables : Scope → Tables
tables scope = tables_in scope.tables.now

abbrev pub bases : Scope → List ℕ
bases scope = (viewed scope.tables.now).bases

-- the index values of the loops around it, outermost first
abbrev pub around : Scope → List ℤ
around scope = take scope.loops scope.indices

-- one loop deeper, at this index
abbrev pub inside : Scope → ℤ → Scope
inside scope index = record { program = scope.program; tables = scope.tables; loops = scope.loops + 1; indices = set scope.indices scope.loops index }
