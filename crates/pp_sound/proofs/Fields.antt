-- A field of a value of a datatype with one constructor.
use Rattle.std.proofs.Common.{◌≡◌, ℕ, Option, Some, None, slice_get, Ok, refl, ap, ◌∙◌}
use Rattle.pp_prog.specs.declared.id.DataId.{DataId}
use Rattle.pp_prog.specs.declared.program.Program.{Program}
use Rattle.pp_prog.specs.declared.sort.Sort.{Sort}
use Rattle.pp_prog.specs.declared.sort.Sort.TheVariants as sort
use Rattle.pp_prog.specs.declared.types.Datatype.{Datatype}
use Rattle.pp_prog.specs.declared.value.Value.{Value}
use Rattle.pp_prog.specs.declared.value.Value.TheVariants.{outs-Tree}
use Rattle.pp_prog.specs.declared.value.Value.TheViews.{out-Value}
use Rattle.pp_prog.specs.ExprSorts.{field_of_data}
use Rattle.pp_prog.proofs.Fields.{fields_sorted, only_ctor}
use Rattle.pp_prog.proofs.ValueSorts.{Has, have_at}
use Rattle.pp_eval.specs.Meaning.{field_in}
use Rattle.pp_eval.specs.Part.{found}

-- the field at this place has the sort that it says
pub field_is : (p : Program) (d : DataId) (k : ℕ) (s : Sort)
    → field_of_data p.types.ctors (slice_get p.types.datatypes d.0) k ≡ Some s → (v : Value)
    → Has p.types.ctors (sort.Tree d) v
    → (w : Value) × (field_in (out-Value v) k ≡ Ok w) × Has p.types.ctors s w
field_is p d k s h v has = by (slice_get p.types.datatypes d.0) refl h
  where
    by : (o : Option Datatype) → slice_get p.types.datatypes d.0 ≡ o → field_of_data p.types.ctors o k ≡ Some s
        → (w : Value) × (field_in (out-Value v) k ≡ Ok w) × Has p.types.ctors s w
    by None there g = cc
    by (Some t) there g =
        let c = only_ctor p.types t d k s there h in
        let own = c.only v has in
        let sorts = fields_sorted p.types.ctors t.first c.entry d v own.0 c.at has own.1 in
        let w = have_at p.types.ctors c.entry.fields own.0 k s sorts c.field in (
          w.0,
          ap (λ o. field_in o k) (ap out-Value own.1 ∙ outs-Tree t.first own.0) ∙ ap found w.1,
          w.2,
        )
