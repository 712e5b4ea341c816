use native.Mathlib.Omega.{arith}
use Rattle.unroller.proofs.CheckWhole.{short, accepted, refused, zero-array}
use Rattle.unroller.proofs.lists.check_list.Goals as goal

pub returns-then-list-lt-LIST_WORDS : goal.returns-then-list-lt-LIST_WORDS
returns-then-list-lt-LIST_WORDS c = short _ c.if-list-lt-LIST_WORDS.true

pub accepts-requires : goal.accepts-requires
accepts-requires c = record { header_words_in_bounds = omega arith; state_len = zero-array 32768 }

pub returns-then-not-accepts : goal.returns-then-not-accepts
returns-then-not-accepts c = refused _ _ c.if-list-lt-LIST_WORDS.false c.if-not-accepts.true c.accepts.ensures

pub returns : goal.returns
returns c = accepted _ _ c.if-list-lt-LIST_WORDS.false c.if-not-accepts.false c.accepts.ensures
