-- What a program file says (docs/FORMAT.md, "The file").
use Rattle.std.specs.Prelude.{ℕ, suc, ◌+◌, List, ℤ}
use Rattle.model.specs.Tables.{Tables}

-- An affine form: a constant, and a coefficient for each enclosing loop, outermost first.
pub record Form : Type 0 where
  pub constant : ℤ
  pub coefficients : List ℤ

mutual
  pub data Expr : Type 0 where
    read : ℕ → List Form → Expr
    apply : ℕ → Exprs → Expr
    literal : Form → Expr
    named : ℕ → Expr

  pub data Exprs : Type 0 where
    none : Exprs
    more : Expr → Exprs → Exprs

-- the nodes of an expression: operators, reads, literals and constants
unfoldable mutual
  pub count : Expr → ℕ
  count (read a fs) = 1
  count (apply o es) = suc (counts es)
  count (literal f) = 1
  count (named n) = 1

  pub counts : Exprs → ℕ
  counts none = 0
  counts (more e es) = count e + counts es

-- Each item begins with the place of its code byte.
mutual
  pub data Item : Type 0 where
    statement : ℕ → ℕ → List Form → Expr → Item
    loop : ℕ → Form → Form → ℤ → Items → Item
    guard : ℕ → Form → Items → Item

  pub data Items : Type 0 where
    end : Items
    item : Item → Items → Items

pub record Program : Type 0 where
  pub tables : Tables
  pub items : Items
