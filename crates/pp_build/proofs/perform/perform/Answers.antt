use Rattle.std.specs.Int.{w32}
use Rattle.std.proofs.lemmas.Int.{to_z-of_z}
use Rattle.pp_domain.proofs.AnySort.{Moves_gates}
use Rattle.pp_domain.proofs.Composition.{Moves_none}
use Rattle.pp_build.proofs.OperatorSteps.{answer_performed, binary_count, binary_performed, descent_count}
use Rattle.pp_build.proofs.OperatorSteps.{descent_performed, descent_sorts, has_answer_performed, unary_performed}
use Rattle.pp_build.proofs.OperatorSteps.{unknown_performed}
use Rattle.pp_build.proofs.Performing.{leaves_by, room_for}
use Rattle.pp_build.proofs.TruthSteps.{alike_performed, bool_performed, both_left, both_performed, both_right}
use Rattle.pp_build.proofs.TruthSteps.{int_performed, not_performed}
use Rattle.pp_build.proofs.WordSteps.{answer_keeps_domain, binary_keeps_domain, construct_is_no_word}
use Rattle.pp_build.proofs.WordSteps.{ctor_field_meets_a_tree, descent_keeps_domain, only_field_meets_a_tree}
use Rattle.pp_build.proofs.WordSteps.{open_keeps_domain, test_meets_a_tree}
use Rattle.pp_eval.proofs.Ranges.{int_fits}
use Rattle.pp_build.proofs.perform.perform.Goals as goal

pub returns-in_err-word-in-Int-clause-moves : goal.returns-in_err-word-in-Int-clause-moves
returns-in_err-word-in-Int-clause-moves g c = rw c.in-Int.is
    (λ can. Moves_gates _ _ g.met.D.Domain.lawful _ _ _ 0 c.requires.fits c.constant.ensures.adds)

pub and-requires-clause-left : goal.and-requires-clause-left
and-requires-clause-left g c =
    both_left _ _ g.met.D.Domain.lawful _ _ _ c.requires.fits _ _ _ c.literal-left.ensures
    (rw c.in-Both.is at c.requires.can)

pub and-requires-clause-right : goal.and-requires-clause-right
and-requires-clause-right g c =
    both_right _ _ g.met.D.Domain.lawful _ _ _ c.requires.fits _ _ _ c.literal-right.ensures
    (rw c.in-Both.is at c.requires.can)

pub returns-in_err-both-in-Both-clause-moves : goal.returns-in_err-both-in-Both-clause-moves
returns-in_err-both-in-Both-clause-moves g c = rw c.in-Both.is
    (λ can. Moves_gates _ _ g.met.D.Domain.lawful _ _ _ 1 c.requires.fits c.in_err-both-in-Both.ensures.adds)

pub returns-in_err-chosen-in-Choose-clause-moves : goal.returns-in_err-chosen-in-Choose-clause-moves
returns-in_err-chosen-in-Choose-clause-moves g c = rw c.in-Choose.is c.in_err-chosen-in-Choose.ensures.moves

pub binary-requires-clause-room : goal.binary-requires-clause-room
binary-requires-clause-room g c =
    room_for _ _ _ _ _ _ _ (binary_count _ _ _ _ _ _ _ _ _ c.register-left.ensures c.register-right.ensures _)
    (rw c.in-Binary.is at c.requires.can)

pub returns-in_err-made-in-Binary-clause-moves : goal.returns-in_err-made-in-Binary-clause-moves
returns-in_err-made-in-Binary-clause-moves g c = rw c.in-Binary.is
    (leaves_by _ _ _ _ _ _ _ _ _
    (binary_count _ _ _ _ _ _ _ _ _ c.register-left.ensures c.register-right.ensures _)
    c.in_err-made-in-Binary.ensures.moves)

pub returns-in_err-tree-in-Construct-clause-moves : goal.returns-in_err-tree-in-Construct-clause-moves
returns-in_err-tree-in-Construct-clause-moves g c = rw c.in-Construct.is
    (rw c.as_slice.ensures at c.in_err-tree-in-Construct.ensures.moves)

pub returns-in_err-has-in-IsCtor-clause-moves : goal.returns-in_err-has-in-IsCtor-clause-moves
returns-in_err-has-in-IsCtor-clause-moves g c = rw c.in-IsCtor.is c.in_err-has-in-IsCtor.ensures.moves

pub returns-in_err-field-in-CtorField-clause-moves : goal.returns-in_err-field-in-CtorField-clause-moves
returns-in_err-field-in-CtorField-clause-moves g c = rw c.in-CtorField.is c.in_err-field-in-CtorField.ensures.moves

pub returns-in_err-field-in-Field-clause-moves : goal.returns-in_err-field-in-Field-clause-moves
returns-in_err-field-in-Field-clause-moves g c = rw c.in-Field.is c.in_err-field-in-Field.ensures.moves

pub goes_down-requires-clause-sorted : goal.goes_down-requires-clause-sorted
goes_down-requires-clause-sorted g c =
    descent_sorts _ _ _ _ _ _ _ _ _ c.register-new.ensures c.register-old.ensures
    (rw c.in-GoesDown.is at c.requires.can)

pub goes_down-requires-clause-room : goal.goes_down-requires-clause-room
goes_down-requires-clause-room g c =
    room_for _ _ _ _ _ _ _ (descent_count _ _ _ _ _ _ _ _ _ c.register-new.ensures c.register-old.ensures)
    (rw c.in-GoesDown.is at c.requires.can)

pub returns-in_err-down-in-GoesDown-clause-moves : goal.returns-in_err-down-in-GoesDown-clause-moves
returns-in_err-down-in-GoesDown-clause-moves g c = rw c.in-GoesDown.is
    (leaves_by _ _ _ _ _ _ _ _ _ (descent_count _ _ _ _ _ _ _ _ _ c.register-new.ensures c.register-old.ensures)
    c.in_err-down-in-GoesDown.ensures.moves)

pub returns-in_ok-symbol-in-Open-clause-performs : goal.returns-in_ok-symbol-in-Open-clause-performs
returns-in_ok-symbol-in-Open-clause-performs g c = rw c.in-Open.is
    (unknown_performed _ _ _ _ _ _ _ _ _ c.in_ok-symbol-in-Open.ensures.answer)

pub returns-in_ok-has-in-HasAnswer-clause-performs : goal.returns-in_ok-has-in-HasAnswer-clause-performs
returns-in_ok-has-in-HasAnswer-clause-performs g c = rw c.in-HasAnswer.is
    (has_answer_performed _ _ _ _ _ _ _ _ _ c.in_ok-has-in-HasAnswer.ensures.answer)

pub returns-in_ok-answer-in-Answer-clause-performs : goal.returns-in_ok-answer-in-Answer-clause-performs
returns-in_ok-answer-in-Answer-clause-performs g c = rw c.in-Answer.is
    (answer_performed _ _ _ _ _ _ _ _ _ c.in_ok-answer-in-Answer.ensures.answer)

pub returns-in_ok-word-in-Int-clause-moves : goal.returns-in_ok-word-in-Int-clause-moves
returns-in_ok-word-in-Int-clause-moves g c = rw c.in-Int.is
    (λ can. Moves_gates _ _ g.met.D.Domain.lawful _ _ _ 0 c.requires.fits c.constant.ensures.adds)

pub returns-in_ok-word-in-Int-clause-performs : goal.returns-in_ok-word-in-Int-clause-performs
returns-in_ok-word-in-Int-clause-performs g c = rw c.in-Int.is
    (int_performed _ _ g.met.D.Domain.lawful _ _ _ c.requires.fits _ _ _ _
    (λ fits. to_z-of_z w32 c.in-Int.n (int_fits c.in-Int.n fits)) c.in_ok-word-in-Int.ensures.adds
    c.in_ok-word-in-Int.ensures.stands)

pub returns-in-Bool-clause-moves : goal.returns-in-Bool-clause-moves
returns-in-Bool-clause-moves g c = rw c.in-Bool.is
    (λ can. Moves_none _ _ g.met.D.Domain.lawful _ _ c.requires.fits)

pub returns-in-Bool-clause-performs : goal.returns-in-Bool-clause-performs
returns-in-Bool-clause-performs g c = rw c.in-Bool.is
    (bool_performed _ _ g.met.D.Domain.lawful _ _ _ c.requires.fits _ _ c.constant-in-Bool.ensures)

pub returns-in-Not-clause-moves : goal.returns-in-Not-clause-moves
returns-in-Not-clause-moves g c = rw c.in-Not.is
    (λ can. Moves_none _ _ g.met.D.Domain.lawful _ _ c.requires.fits)

pub returns-in-Not-clause-performs : goal.returns-in-Not-clause-performs
returns-in-Not-clause-performs g c = rw c.in-Not.is
    (not_performed _ _ g.met.D.Domain.lawful _ _ _ c.requires.fits _ _ _ c.literal-bit.ensures c.negated.ensures)

pub returns-in_ok-both-in-Both-clause-moves : goal.returns-in_ok-both-in-Both-clause-moves
returns-in_ok-both-in-Both-clause-moves g c = rw c.in-Both.is
    (λ can. Moves_gates _ _ g.met.D.Domain.lawful _ _ _ 1 c.requires.fits c.in_ok-both-in-Both.ensures.adds)

pub returns-in_ok-both-in-Both-clause-performs : goal.returns-in_ok-both-in-Both-clause-performs
returns-in_ok-both-in-Both-clause-performs g c = rw c.in-Both.is
    (both_performed _ _ g.met.D.Domain.lawful _ _ _ c.requires.fits _ _ _ _ _ _ c.literal-left.ensures
    c.literal-right.ensures c.in_ok-both-in-Both.ensures.adds c.in_ok-both-in-Both.ensures.stands)

pub returns-in_ok-chosen-in-Choose-clause-moves : goal.returns-in_ok-chosen-in-Choose-clause-moves
returns-in_ok-chosen-in-Choose-clause-moves g c = rw c.in-Choose.is c.in_ok-chosen-in-Choose.ensures.moves

pub returns-in_ok-chosen-in-Choose-clause-performs : goal.returns-in_ok-chosen-in-Choose-clause-performs
returns-in_ok-chosen-in-Choose-clause-performs g c = rw c.in-Choose.is c.in_ok-chosen-in-Choose.ensures.performs

pub returns-in_ok-made-in-Unary-clause-performs : goal.returns-in_ok-made-in-Unary-clause-performs
returns-in_ok-made-in-Unary-clause-performs g c = rw c.in-Unary.is
    (unary_performed _ _ _ _ _ _ _ _ _ _ _ c.in_ok-made-in-Unary.ensures.moves _ c.register-operand.ensures
    c.in_ok-made-in-Unary.ensures.answer)

pub returns-in_ok-made-in-Binary-clause-moves : goal.returns-in_ok-made-in-Binary-clause-moves
returns-in_ok-made-in-Binary-clause-moves g c = rw c.in-Binary.is
    (leaves_by _ _ _ _ _ _ _ _ _
    (binary_count _ _ _ _ _ _ _ _ _ c.register-left.ensures c.register-right.ensures _)
    c.in_ok-made-in-Binary.ensures.moves)

pub returns-in_ok-made-in-Binary-clause-performs : goal.returns-in_ok-made-in-Binary-clause-performs
returns-in_ok-made-in-Binary-clause-performs g c = rw c.in-Binary.is
    (binary_performed _ _ _ _ _ _ _ _ _ c.register-left.ensures c.register-right.ensures _ _ _ _
    c.in_ok-made-in-Binary.ensures.moves _ c.in_ok-made-in-Binary.ensures.answer)

pub returns-in_ok-tree-in-Construct-clause-moves : goal.returns-in_ok-tree-in-Construct-clause-moves
returns-in_ok-tree-in-Construct-clause-moves g c = rw c.in-Construct.is
    (rw c.as_slice.ensures at c.in_ok-tree-in-Construct.ensures.moves)

pub returns-in_ok-tree-in-Construct-clause-performs : goal.returns-in_ok-tree-in-Construct-clause-performs
returns-in_ok-tree-in-Construct-clause-performs g c = rw c.in-Construct.is
    (rw c.as_slice.ensures at c.in_ok-tree-in-Construct.ensures.performs)

pub returns-in_ok-has-in-IsCtor-clause-moves : goal.returns-in_ok-has-in-IsCtor-clause-moves
returns-in_ok-has-in-IsCtor-clause-moves g c = rw c.in-IsCtor.is c.in_ok-has-in-IsCtor.ensures.moves

pub returns-in_ok-has-in-IsCtor-clause-performs : goal.returns-in_ok-has-in-IsCtor-clause-performs
returns-in_ok-has-in-IsCtor-clause-performs g c = rw c.in-IsCtor.is c.in_ok-has-in-IsCtor.ensures.performs

pub returns-in_ok-field-in-CtorField-clause-moves : goal.returns-in_ok-field-in-CtorField-clause-moves
returns-in_ok-field-in-CtorField-clause-moves g c = rw c.in-CtorField.is c.in_ok-field-in-CtorField.ensures.moves

pub returns-in_ok-field-in-CtorField-clause-performs : goal.returns-in_ok-field-in-CtorField-clause-performs
returns-in_ok-field-in-CtorField-clause-performs g c =
    rw c.in-CtorField.is c.in_ok-field-in-CtorField.ensures.performs

pub returns-in_ok-field-in-Field-clause-moves : goal.returns-in_ok-field-in-Field-clause-moves
returns-in_ok-field-in-Field-clause-moves g c = rw c.in-Field.is c.in_ok-field-in-Field.ensures.moves

pub returns-in_ok-field-in-Field-clause-performs : goal.returns-in_ok-field-in-Field-clause-performs
returns-in_ok-field-in-Field-clause-performs g c = rw c.in-Field.is c.in_ok-field-in-Field.ensures.performs

pub returns-in-IsAlike-clause-moves : goal.returns-in-IsAlike-clause-moves
returns-in-IsAlike-clause-moves g c = rw c.in-IsAlike.is
    (λ can. Moves_none _ _ g.met.D.Domain.lawful _ _ c.requires.fits)

pub returns-in-IsAlike-clause-performs : goal.returns-in-IsAlike-clause-performs
returns-in-IsAlike-clause-performs g c = rw c.in-IsAlike.is
    (alike_performed _ _ g.met.D.Domain.lawful _ _ _ c.requires.fits _ _ _ c.truth.ensures.stands)

pub returns-in_ok-down-in-GoesDown-clause-moves : goal.returns-in_ok-down-in-GoesDown-clause-moves
returns-in_ok-down-in-GoesDown-clause-moves g c = rw c.in-GoesDown.is
    (leaves_by _ _ _ _ _ _ _ _ _ (descent_count _ _ _ _ _ _ _ _ _ c.register-new.ensures c.register-old.ensures)
    c.in_ok-down-in-GoesDown.ensures.moves)

pub returns-in_ok-down-in-GoesDown-clause-performs : goal.returns-in_ok-down-in-GoesDown-clause-performs
returns-in_ok-down-in-GoesDown-clause-performs g c = rw c.in-GoesDown.is
    (descent_performed _ _ _ _ _ _ _ _ _ c.register-new.ensures c.register-old.ensures _ _ _
    c.in_ok-down-in-GoesDown.ensures.answer)

pub returns-in_err-symbol-in-Open-clause-words : goal.returns-in_err-symbol-in-Open-clause-words
returns-in_err-symbol-in-Open-clause-words g c = rw c.in-Open.is
    (open_keeps_domain _ _ _ _ _ _ _ c.in_err-symbol-in-Open.ensures.words)

pub returns-in_ok-symbol-in-Open-clause-words : goal.returns-in_ok-symbol-in-Open-clause-words
returns-in_ok-symbol-in-Open-clause-words g c = rw c.in-Open.is
    (open_keeps_domain _ _ _ _ _ _ _ c.in_ok-symbol-in-Open.ensures.words)

pub returns-in_err-answer-in-Answer-clause-words : goal.returns-in_err-answer-in-Answer-clause-words
returns-in_err-answer-in-Answer-clause-words g c = rw c.in-Answer.is
    (answer_keeps_domain _ _ _ _ _ _ _ c.in_err-answer-in-Answer.ensures.words)

pub returns-in_ok-answer-in-Answer-clause-words : goal.returns-in_ok-answer-in-Answer-clause-words
returns-in_ok-answer-in-Answer-clause-words g c = rw c.in-Answer.is
    (answer_keeps_domain _ _ _ _ _ _ _ c.in_ok-answer-in-Answer.ensures.words)

pub returns-in_err-chosen-in-Choose-clause-words : goal.returns-in_err-chosen-in-Choose-clause-words
returns-in_err-chosen-in-Choose-clause-words g c = rw c.in-Choose.is c.in_err-chosen-in-Choose.ensures.words

pub returns-in_ok-chosen-in-Choose-clause-words : goal.returns-in_ok-chosen-in-Choose-clause-words
returns-in_ok-chosen-in-Choose-clause-words g c = rw c.in-Choose.is c.in_ok-chosen-in-Choose.ensures.words

pub returns-in_err-made-in-Binary-clause-words : goal.returns-in_err-made-in-Binary-clause-words
returns-in_err-made-in-Binary-clause-words g c = rw c.in-Binary.is
    (binary_keeps_domain _ _ _ _ _ _ _ _ _ _ c.register-left.ensures c.in_err-made-in-Binary.ensures.words)

pub returns-in_ok-made-in-Binary-clause-words : goal.returns-in_ok-made-in-Binary-clause-words
returns-in_ok-made-in-Binary-clause-words g c = rw c.in-Binary.is
    (binary_keeps_domain _ _ _ _ _ _ _ _ _ _ c.register-left.ensures c.in_ok-made-in-Binary.ensures.words)

pub returns-in_err-tree-in-Construct-clause-words : goal.returns-in_err-tree-in-Construct-clause-words
returns-in_err-tree-in-Construct-clause-words g c = rw c.in-Construct.is (construct_is_no_word _ _ _ _ _ _ _ _)

pub returns-in_ok-tree-in-Construct-clause-words : goal.returns-in_ok-tree-in-Construct-clause-words
returns-in_ok-tree-in-Construct-clause-words g c = rw c.in-Construct.is (construct_is_no_word _ _ _ _ _ _ _ _)

pub returns-in_err-has-in-IsCtor-clause-words : goal.returns-in_err-has-in-IsCtor-clause-words
returns-in_err-has-in-IsCtor-clause-words g c = rw c.in-IsCtor.is (test_meets_a_tree _ _ _ _ _ _ _ _ _)

pub returns-in_ok-has-in-IsCtor-clause-words : goal.returns-in_ok-has-in-IsCtor-clause-words
returns-in_ok-has-in-IsCtor-clause-words g c = rw c.in-IsCtor.is (test_meets_a_tree _ _ _ _ _ _ _ _ _)

pub returns-in_err-field-in-CtorField-clause-words : goal.returns-in_err-field-in-CtorField-clause-words
returns-in_err-field-in-CtorField-clause-words g c = rw c.in-CtorField.is
    (ctor_field_meets_a_tree _ _ _ _ _ _ _ _ _)

pub returns-in_ok-field-in-CtorField-clause-words : goal.returns-in_ok-field-in-CtorField-clause-words
returns-in_ok-field-in-CtorField-clause-words g c = rw c.in-CtorField.is
    (ctor_field_meets_a_tree _ _ _ _ _ _ _ _ _)

pub returns-in_err-field-in-Field-clause-words : goal.returns-in_err-field-in-Field-clause-words
returns-in_err-field-in-Field-clause-words g c = rw c.in-Field.is (only_field_meets_a_tree _ _ _ _ _ _ _ _)

pub returns-in_ok-field-in-Field-clause-words : goal.returns-in_ok-field-in-Field-clause-words
returns-in_ok-field-in-Field-clause-words g c = rw c.in-Field.is (only_field_meets_a_tree _ _ _ _ _ _ _ _)

pub returns-in_err-down-in-GoesDown-clause-words : goal.returns-in_err-down-in-GoesDown-clause-words
returns-in_err-down-in-GoesDown-clause-words g c = rw c.in-GoesDown.is
    (descent_keeps_domain _ _ _ _ _ _ _ _ _ c.register-new.ensures c.in_err-down-in-GoesDown.ensures.words)

pub returns-in_ok-down-in-GoesDown-clause-words : goal.returns-in_ok-down-in-GoesDown-clause-words
returns-in_ok-down-in-GoesDown-clause-words g c = rw c.in-GoesDown.is
    (descent_keeps_domain _ _ _ _ _ _ _ _ _ c.register-new.ensures c.in_ok-down-in-GoesDown.ensures.words)
