-- What is ordinary of units: numbers are Ints, and the names of types and functions are plain, so that none of them is
-- refused for a mark. Source: own.
use Rattle.std.specs.Prelude.{List, All}
use Rattle.pp_declared.specs.Listed.{ClassIn, DefIn, decls_in, defs_of, roots_of}
use Rattle.pp_tree.specs.Plain.{UnitTree}
use Rattle.pp_typed.specs.WellSorted.{IsPlain}
use Rattle.pp_types_laws.specs.Literals.{UnitsInts}

pub record AreOrdinary (units : List UnitTree) : Type 0 where
  pub types_plain : All (λ (c : ClassIn). IsPlain c.class.name) (roots_of (decls_in units))
  pub functions_plain : All (λ (d : DefIn). IsPlain d.def.name) (defs_of (decls_in units))
  pub numbers : UnitsInts units
