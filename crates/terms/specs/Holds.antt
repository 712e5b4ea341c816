-- What it is that memory holds a list of nodes.
-- An equation for each word of the chains: a link, and a head, is the cursor of the last earlier id of the same bucket.
use Rattle.std.specs.Prelude.{Option, Some, None, ◌≡◌, ℕ, zero, suc, ◌<◌, ◌≤◌, Bool, List, [], length, ◌==◌, ◌≢◌, slice_index_or, if◌then◌else◌}
use Rattle.model.specs.Memory.{term_words}
use Rattle.terms.specs.declared.Node.{Node}
use Rattle.terms.specs.Mix.{bucket_of}
use Rattle.terms.specs.Store.{node_of, node_at, link_at, head_at}

-- the cursor of the last id below k whose bucket, by g, is b
unfoldable pub last_in : (ℕ → ℕ) → ℕ → ℕ → ℕ
last_in g b zero = 0
last_in g b (suc k) = let r = last_in g b k in if g k == b then suc k else r

-- the last id below k that passes a test, plus 1
unfoldable pub seek : (ℕ → Bool) → ℕ → Option ℕ
seek test zero = None
seek test (suc k) = let r = seek test k in if test k then Some (suc k) else r

-- the node of an id
abbrev pub term : List Node → ℕ → Node
term ns i = slice_index_or ns i (node_of 0 0 [])

abbrev pub bucket_in : List Node → ℕ → ℕ
bucket_in ns i = bucket_of (term ns i)

pub record Holds (m : List ℕ) (count : ℕ) (ns : List Node) : Type 0 where
  pub long : term_words ≤ length m
  pub room : count ≤ 4096
  pub counted : length ns ≡ count
  pub words : (i : ℕ) → i < count → node_at m i ≡ term ns i
  pub once : (i j : ℕ) → i < count → j < count → term ns i ≡ term ns j → i ≡ j
  pub linked : (i : ℕ) → i < count → link_at m i ≡ last_in (bucket_in ns) (bucket_in ns i) i
  pub headed : (b : ℕ) → b < 4096 → head_at m b ≡ last_in (bucket_in ns) b count

-- n is not among the nodes
abbrev pub New : List Node → Node → Type 0
New ns n = (i : ℕ) → i < length ns → term ns i ≢ n
