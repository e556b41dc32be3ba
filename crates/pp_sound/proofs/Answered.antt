-- Calls can be answered by values of the functions' result sorts.
use Rattle.std.proofs.Common.{◌≡◌, ◌<◌, Bool, true, false, List, Option, Some, None, slice_get, Ok, Err, pos, length}
use Rattle.std.proofs.Common.{refl, ap, ◌∙◌}
use Rattle.std.proofs.lemmas.Bool.{and_parts, ltb-true}
use Rattle.pp_prog.specs.declared.expr.Function.{Function}
use Rattle.pp_prog.specs.declared.program.Program.{Program}
use Rattle.pp_prog.specs.declared.sort.Sort.{Sort}
use Rattle.pp_prog.specs.declared.sort.Sort.TheVariants as sort
use Rattle.pp_prog.specs.declared.types.Ctor.{Ctor}
use Rattle.pp_prog.specs.declared.types.Datatype.{Datatype}
use Rattle.pp_prog.specs.declared.value.Value.{Value}
use Rattle.pp_prog.specs.declared.value.Value.TheVariants.{Int, Bool as Truth}
use Rattle.pp_prog.specs.Sorts.{param_sorts}
use Rattle.pp_prog.specs.Table.{HasValue, HaveValues, is_sort}
use Rattle.pp_prog.specs.Valid.{is_in_range}
use Rattle.pp_prog.proofs.Sure.{is_valid}
use Rattle.std.proofs.Math.Logic.{∥∥₁_map}
use Rattle.std.specs.List.{list_all}
use Rattle.pp_eval.specs.declared.outcome.Stop.TheVariants.{Deep}
use Rattle.pp_eval.specs.Meaning.{CallMeaning}
use Rattle.pp_eval.specs.Part.{Part}
use Rattle.pp_sound.specs.Sound.{AnswersSorted, CanAnswerSorted}
use Rattle.pp_prog.proofs.ValueSorts.{Has, int_has, truth_has}
use Rattle.pp_sound.proofs.Listed.{all_at}

value_of : (datatypes : List Datatype) (ctors : List Ctor) → HaveValues datatypes ctors → (s : Sort)
    → is_sort datatypes s ≡ true → HasValue ctors s
value_of datatypes ctors values sort.Int h = (Int (pos 0), int_has ctors (pos 0) refl)
value_of datatypes ctors values sort.Bool h = (Truth true, truth_has ctors true)
value_of datatypes ctors values (sort.Tree d) h = let lt : d.0 < length datatypes = ltb-true d.0 (length datatypes) h in
    values d.0 lt

module _ (p : Program) (values : HaveValues p.types.datatypes p.types.ctors) where
  abbrev reply_if : (s : Sort) (b : Bool) → is_sort p.types.datatypes s ≡ b → Part Value
  reply_if s true e = Ok (value_of p.types.datatypes p.types.ctors values s e).0
  reply_if s false e = Err Deep

  abbrev reply : Option Function → Part Value
  reply None = Err Deep
  reply (Some f) = reply_if f.result (is_sort p.types.datatypes f.result) refl

  replied : (s : Sort) (b : Bool) (e : is_sort p.types.datatypes s ≡ b) → is_sort p.types.datatypes s ≡ true
      → (v : Value) × (reply_if s b e ≡ Ok v) × Has p.types.ctors s v
  replied s true e h = let v = value_of p.types.datatypes p.types.ctors values s e in (v.0, refl, v.1)
  replied s false e h = cc

  calls_answered : (deeper : CallMeaning) × AnswersSorted p deeper
  calls_answered = (
    λ frame g pre down args. reply (slice_get p.functions g.0),
    record {
      answers = λ frame g pre down args f is have.
          let within = and_parts (list_all (is_sort p.types.datatypes) (param_sorts f.params)) _
          (all_at (is_in_range p.types.datatypes) p.functions g.0 f (is_valid p).in_range is) in
          let v = replied f.result (is_sort p.types.datatypes f.result) refl within.1 in
          (v.0, ap reply is ∙ v.1, v.2);
    },
  )

pub can_answer_sorted : CanAnswerSorted
can_answer_sorted p = ∥∥₁_map p.types.inhabited (calls_answered p)
