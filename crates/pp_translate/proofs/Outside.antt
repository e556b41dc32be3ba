-- A sort that isn't one of the table has no value.
use Rattle.std.proofs.Common.{◌≡◌, ◌≤◌, ℕ, nat_lt, true, false, List, length, sym, ap, ◌∙◌, arith}
use Rattle.std.specs.Prelude.{IsTrue, slice_get}
use Rattle.std.proofs.lemmas.Bool.Decides.{nat_tests}
use Rattle.std.proofs.lemmas.Option.{slice_get_past}
use Rattle.pp_cover.proofs.Typed.{tree_opened}
use Rattle.pp_prog.specs.Sorts.{has_sort}
use Rattle.pp_prog.specs.Table.{Agree, in_block_of, is_sort}
use Rattle.pp_prog.specs.declared.sort.Sort.{Sort}
use Rattle.pp_prog.specs.declared.sort.Sort.TheVariants as sort
use Rattle.pp_prog.specs.declared.types.Ctor.{Ctor}
use Rattle.pp_prog.specs.declared.types.Datatype.{Datatype}
use Rattle.pp_prog.specs.declared.value.Value.{Value}

past : (d n : ℕ) → nat_lt d n ≡ false → n ≤ d
past d n h = grind (arith, nat_tests)

pub no_value : (datatypes : List Datatype) (ctors : List Ctor) → Agree datatypes ctors → (s : Sort)
    → is_sort datatypes s ≡ false
    → (v : Value) → IsTrue (has_sort ctors v s) → ⊥
no_value datatypes ctors agree sort.Int h v has = cc
no_value datatypes ctors agree sort.Bool h v has = cc
no_value datatypes ctors agree (sort.Tree d) h v has =
    let o = tree_opened ctors d v has in
    let none = slice_get_past datatypes d.0 (past d.0 (length datatypes) h) in
    let inside = agree.stands o.c.0 o.ctor o.there in
    let no : false ≡ true = ap (λ t. in_block_of t o.c.0) (sym (ap (slice_get datatypes) o.of ∙ none)) ∙ inside in
    cc
