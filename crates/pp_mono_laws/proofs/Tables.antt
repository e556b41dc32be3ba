-- Two tables of the same datatypes and constructors are the same.
use Rattle.std.proofs.Common.{◌≡◌, ◌<◌, ◌^◌, ℕ, List, length, ap, subst}
use Rattle.std.proofs.Props.{props}
use Rattle.pp_prog.specs.Table.{Agree, HaveValues}
use Rattle.pp_prog.specs.declared.types.Ctor.{Ctor}
use Rattle.pp_prog.specs.declared.types.Datatype.{Datatype}
use Rattle.pp_prog.specs.declared.types.TypeTable.{TypeTable}

agree_prop : (ds : List Datatype) (cs : List Ctor) → IsProp (Agree ds cs)
agree_prop ds cs = hlevel props

few_prop : (n : ℕ) → IsProp (n < 2 ^ 32)
few_prop n = hlevel props

values_prop : (ds : List Datatype) (cs : List Ctor) → IsProp (∥ HaveValues ds cs ∥₁)
values_prop ds cs = hlevel props

-- what a table knows of its lists
record AreKnown (ds : List Datatype) (cs : List Ctor) : Type 0 where
  pub few : length ds < 2 ^ 32
  pub fewer : length cs < 2 ^ 32
  pub agree : Agree ds cs
  pub inhabited : ∥ HaveValues ds cs ∥₁

abbrev table : (ds : List Datatype) (cs : List Ctor) → AreKnown ds cs → TypeTable
table ds cs k = record {
  datatypes = ds;
  ctors = cs;
  few_datatypes = k.few;
  few_ctors = k.fewer;
  agree = k.agree;
  inhabited = k.inhabited;
}

known_prop : (ds : List Datatype) (cs : List Ctor) → IsProp (AreKnown ds cs)
known_prop ds cs = hlevel (few_prop, agree_prop, values_prop)

abbrev known : (t : TypeTable) → AreKnown t.datatypes t.ctors
known t = record { few = t.few_datatypes; fewer = t.few_ctors; agree = t.agree; inhabited = t.inhabited }

module _ (ds : List Datatype) (cs : List Ctor) (k : AreKnown ds cs) where
  abbrev Same : List Datatype → List Ctor → Type 0
  Same es bs = (l : AreKnown es bs) → table ds cs k ≡ table es bs l

  one_known : Same ds cs
  one_known l = ap (table ds cs) (known_prop ds cs k l)

pub one_table : (t u : TypeTable) → t.datatypes ≡ u.datatypes → t.ctors ≡ u.ctors → t ≡ u
one_table t u same too =
    subst (λ es. Same t.datatypes t.ctors (known t) es u.ctors) same
    (subst (λ bs. Same t.datatypes t.ctors (known t) t.datatypes bs) too (one_known t.datatypes t.ctors (known t)))
    (known u)
