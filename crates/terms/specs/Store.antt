-- What each entry of the store does, on lists, for every input. The layout is that of docs/LAYOUT.md, "Terms".
use Rattle.std.specs.Prelude.{Option, Some, None, Result, Ok, Err, ℕ, ◌+◌, ◌-◌, ◌*◌, Bool, ◌&&◌, List, [], ◌∷◌, length, ◌==◌, nat_le, nat_lt, slice_index, slice_set, if◌then◌else◌}
use Rattle.std.proofs.lemmas.List.Edits.{sets}
use Rattle.model.specs.Memory.{term_words}
use Rattle.terms.specs.declared.Node.{Node}
use Rattle.terms.specs.declared.Kept.{Kept}
use Rattle.terms.specs.declared.InternError.{InternError}
use Rattle.terms.specs.declared.InternError.TheVariants.{Full, Short}
use Rattle.terms.specs.declared.ShortMemory.{ShortMemory}
use Rattle.terms.specs.Chain.{look}
use Rattle.terms.specs.Mix.{bucket_of}

-- ---- answers

-- a value, or a "no" to the question with this number
pub data Says (A : Type 0) : Type 0 where
  gives : A → Says A
  refused : ℕ → Says A

abbrev pub says_of : Result Kept InternError → Says Kept
says_of (Ok k) = gives k
says_of (Err Full) = refused 24
says_of (Err Short) = refused 25

abbrev pub start_says : Result Bool ShortMemory → Says Bool
start_says (Ok b) = gives b
start_says (Err e) = refused 25

abbrev pub kept : ℕ → ℕ → Kept
kept count id = record { count = count; id = id }

-- an answer in two numbers: of a refusal the count is above 4,096, and the question stands for the id
abbrev pub kept_of : Says Kept → Kept
kept_of (gives k) = k
kept_of (refused question) = kept 4097 question

-- and read back
abbrev pub kept_says : Kept → Says Kept
kept_says k = if nat_le k.count 4096 then gives k else refused k.id

-- ---- nodes

abbrev pub node_of : ℕ → ℕ → List ℕ → Node
node_of kind payload ids = record {
  kind = kind;
  payload = payload;
  a0 = slice_index ids 0;
  a1 = slice_index ids 1;
  a2 = slice_index ids 2;
  a3 = slice_index ids 3;
}

-- the node of id i
unfoldable pub node_at : List ℕ → ℕ → Node
node_at m i = record {
  kind = slice_index m (i * 8);
  payload = slice_index m (i * 8 + 1);
  a0 = slice_index m (i * 8 + 2);
  a1 = slice_index m (i * 8 + 3);
  a2 = slice_index m (i * 8 + 4);
  a3 = slice_index m (i * 8 + 5);
}

abbrev pub link_at : List ℕ → ℕ → ℕ
link_at m i = slice_index m (i * 8 + 6)

abbrev pub head_at : List ℕ → ℕ → ℕ
head_at m b = slice_index m (b * 8 + 7)

unfoldable pub eq_node : Node → Node → Bool
eq_node x y =
    (x.kind == y.kind)
    && (x.payload == y.payload
    && (x.a0 == y.a0 && (x.a1 == y.a1 && (x.a2 == y.a2 && x.a3 == y.a3))))

abbrev pub args_of : Node → List ℕ
args_of n = n.a0 ∷ n.a1 ∷ n.a2 ∷ n.a3 ∷ []

-- memory with the node n at id i
unfoldable pub written : List ℕ → ℕ → Node → List ℕ
written m i n = sets m (i * 8) (n.kind ∷ n.payload ∷ args_of n)

-- and in front of the chain of bucket b, which began with start
unfoldable pub linked_in : List ℕ → ℕ → ℕ → ℕ → Node → List ℕ
linked_in m i b start n = slice_set (slice_set (written m i n) (i * 8 + 6) start) (b * 8 + 7) (i + 1)

-- ---- intern

-- the answer and memory, as a call leaves them
pub record Out : Type 0 where
  pub answer : Says Kept
  pub memory : List ℕ

abbrev pub out : Says Kept → List ℕ → Out
out a m = record { answer = a; memory = m }

-- what a walk finds of n from a cursor, among the ids below count
unfoldable pub find_of : List ℕ → ℕ → ℕ → Node → Option ℕ
find_of m at count n = look (λ i. eq_node (node_at m i) n) (λ i. link_at m i) count at

-- n is stored, as the last of count + 1
abbrev pub appended : List ℕ → ℕ → Node → List ℕ
appended m count n = linked_in m count (bucket_of n) (head_at m (bucket_of n)) n

abbrev pub by_found : List ℕ → ℕ → Node → Option ℕ → Out
by_found m count n (Some r) = out (gives (kept count r)) m
by_found m count n None =
    if nat_lt count 4096 then out (gives (kept (count + 1) (count + 1))) (appended m count n) else out (refused 24) m

unfoldable pub intern_of : List ℕ → ℕ → Node → Out
intern_of m count n =
    if nat_le term_words (length m)
    then if nat_le count 4096 then by_found m count n (find_of m (head_at m (bucket_of n)) count n) else out (refused 24) m
    else out (refused 25) m

-- ---- is_start

-- whether the term with id plus 1 = r is the starting cell c of array a
unfoldable pub starts_at : List ℕ → ℕ → ℕ → ℕ → Says Bool
starts_at m r a c =
    if nat_le term_words (length m)
    then gives (nat_lt 0 r && (nat_le r 4096 && eq_node (node_at m (r - 1)) (node_of 16 a (c ∷ []))))
    else refused 25
