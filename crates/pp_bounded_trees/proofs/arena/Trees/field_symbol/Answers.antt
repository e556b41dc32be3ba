use Rattle.std.proofs.Common.{◌≡◌, ◌∙◌, ◌-◌, List, refl, sym, ap, subst, arith}
use Rattle.pp_gate.specs.declared.gate.Gate.{Gate}
use Rattle.pp_domain.specs.Answers.{IsFieldRead}
use Rattle.pp_domain.specs.Moves.{Moves, Steady}
use Rattle.pp_bounded_trees.specs.Alternatives.{field_in}
use Rattle.pp_bounded_trees.specs.Fields.{IsBlank, lowered}
use Rattle.pp_bounded_trees.specs.Meaning.{bounded_sense}
use Rattle.pp_bounded_trees.proofs.Blank.{Moves_unmoved}
use Rattle.pp_bounded_trees.proofs.Fields.{field_blank, field_read}
use Rattle.pp_bounded_trees.proofs.Found.{found_in}
use Rattle.pp_bounded_trees.proofs.arena.Trees.field_symbol.Goals as goal

pub returns-in-Some-clause-moves : goal.returns-in-Some-clause-moves
returns-in-Some-clause-moves c = Moves_unmoved _ _ _ _ c.requires.fits refl

pub returns-in-Some-clause-answer : goal.returns-in-Some-clause-answer
returns-in-Some-clause-answer c = λ s has.
    let own = found_in c.requires.tree.node.alternatives _ _ _
    (c.alternatives-alternatives.ensures.is c.requires.tree.node c.requires.tree.at) c.place_of-own.ensures in
    let is = ap (field_in c.args.place) own ∙ sym c.field_at.ensures ∙ c.in-Some.is in
    let low = c.lowered.ensures
    ∙ ap (λ h. lowered h c.in-Some.field) (omega (arith, c.saturating_sub-height.ensures)) in
    subst (λ r. IsFieldRead bounded_sense c.args.table.now c.args.self.now c.args.circuit.now c.args.self.now
    c.args.circuit.now c.args.tree.now c.args.ctor c.args.place s r) (sym low)
    (field_read c.args.table.now c.args.self.now c.args.circuit.now c.args.tree.now c.args.ctor c.args.place
    c.requires.fits c.requires.tree s c.in-Some.field has is)

pub returns-in_ok-blank-in-None-clause-answer : goal.returns-in_ok-blank-in-None-clause-answer
returns-in_ok-blank-in-None-clause-answer c = λ s has.
    let own = found_in c.requires.tree.node.alternatives _ _ _
    (c.alternatives-alternatives.ensures.is c.requires.tree.node c.requires.tree.at) c.place_of-own.ensures in
    let is = ap (field_in c.args.place) own ∙ sym c.field_at.ensures ∙ c.in-None.is in
    let blank = c.in_ok-blank-in-None.ensures in
    let height : c.saturating_sub-height.result ≡ c.args.tree.now.height - 1 =
    omega (arith, c.saturating_sub-height.ensures) in
    subst (λ (hs : List Gate). IsFieldRead bounded_sense c.args.table.now c.args.self.now c.args.circuit.now
    c.blank.new.self hs c.args.tree.now c.args.ctor c.args.place s c.in_ok-blank-in-None.blank) (sym blank.same)
    (field_blank c.args.table.now c.args.self.now c.args.circuit.now c.args.tree.now c.args.ctor c.args.place
    c.requires.fits c.requires.tree c.blank.new.self s c.in_ok-blank-in-None.blank has is
    (subst (λ (hs : List Gate). Moves bounded_sense c.args.table.now c.args.self.now c.args.circuit.now
    c.blank.new.self hs 0) blank.same blank.moves)
    (subst (λ (hs : List Gate). Steady bounded_sense c.args.self.now c.args.circuit.now c.blank.new.self hs) blank.same
    blank.steady)
    (subst (λ h. IsBlank c.blank.new.self c.args.circuit.now h s c.in_ok-blank-in-None.blank) height
    (subst (λ (hs : List Gate). IsBlank c.blank.new.self hs c.saturating_sub-height.result s
    c.in_ok-blank-in-None.blank) blank.same (blank.answer s has))))
