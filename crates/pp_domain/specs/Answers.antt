-- What each call of a domain answers: its tree or literal, its meaning for every good assignment, and that a good
-- assignment extends over the call. In an exact domain the last asks nothing of the trees. (own)
use Rattle.std.specs.Prelude.{◌≡◌, ◌↔◌, ◌≤◌, ◌+◌, ◌-◌, ◌^◌, max, ℕ, Bool, true, if◌then◌else◌, List, [], map, Some}
use Rattle.std.specs.Prelude.{slice_get}
use Rattle.pp_prog.specs.declared.id.CtorId.{CtorId}
use Rattle.pp_prog.specs.declared.id.DataId.{DataId}
use Rattle.pp_prog.specs.declared.sort.Sort.{Sort}
use Rattle.pp_prog.specs.declared.types.Ctor.{Ctor}
use Rattle.pp_prog.specs.declared.types.TypeTable.{TypeTable}
use Rattle.pp_prog.specs.declared.value.Value.{Value}
use Rattle.pp_prog.specs.declared.value.Value.TheVariants.{Tree}
use Rattle.pp_prog.specs.Sizes.{height_at}
use Rattle.pp_prog.specs.Values.{IsBelow, greatest, height as value_height}
use Rattle.pp_clause.specs.Literal.{Literal, lit_value}
use Rattle.pp_gate.specs.declared.gate.Gate.{Gate}
use Rattle.pp_gate.specs.Circuit.{IsOf}
use Rattle.pp_domain.specs.declared.symbol.Symbol.{Symbol}
use Rattle.pp_domain.specs.Naming.{Naming, IsOfData, HasNumber, Names, NamesFields, HasCtor, IsFieldOf}
use Rattle.pp_domain.specs.Sense.{Sense, Good, Extended, Inexact}
use Rattle.pp_domain.specs.Symbols.{IsSymbol, AreSymbols, SymbolStands, SymbolsStand, symbol_height}
use Rattle.pp_domain.specs.Moves.{LooksAt, Steady}

-- the constructor is in the table, and of this datatype
abbrev pub IsCtorOf : TypeTable → CtorId → DataId → Type 0
IsCtorOf types c of = (k : Ctor) × (slice_get types.ctors c.0 ≡ Some k) × (k.of ≡ of)

-- this is the sort of the constructor's field at the place
abbrev pub HasField : TypeTable → CtorId → ℕ → Sort → Type 0
HasField types c place s = (k : Ctor) × (slice_get types.ctors c.0 ≡ Some k) × (slice_get k.fields place ≡ Some s)

module _ {D T : Type 0} (m : Sense D T) (types : TypeTable) where
  -- the constructor is in the table, and the symbols are of the sorts of its fields
  abbrev pub CanConstruct : D → List Gate → CtorId → List (Symbol T) → Type 0
  CanConstruct d gs c fields = (k : Ctor) × (slice_get types.ctors c.0 ≡ Some k) × AreSymbols m d gs k.fields fields

  -- the two are trees of the domain, of one datatype
  pub record AreOfOneData (d : D) (left right : T) : Type 0 where
    pub left_kept : m.Node d left
    pub right_kept : m.Node d right
    pub same : m.data_of d right ≡ m.data_of d left

  -- a domain without trees over the circuit, of which it wants nothing
  pub record Fresh (d : D) (gs : List Gate) : Type 0 where
    pub fits : m.Fits types d gs
    pub empty : (t : T) → m.Node d t → ⊥
    pub ok : m.ok d ≡ record { var = 1; positive = true }
    pub matches : (a : ℕ → Bool) (n : Naming) → m.Reaches d n → m.Matches d a n
    pub looks : m.looks d ≡ []
    pub compares : m.compares d ≡ 0

  -- a domain as it is made: without trees, and with names for 2^30 values
  pub record IsNew (d : D) (gs : List Gate) : Type 0 where
    pub fresh : Fresh d gs
    pub limit : m.limit d ≡ 2 ^ 30

  -- a good assignment of the new circuit that goes on from `a`, under which the tree stands for v
  abbrev pub Chosen : List Gate → Naming → (ℕ → Bool) → D → List Gate → T → Value → Type 0
  Chosen gs n a e hs t v = (x : Extended m types gs n a e hs) × m.Stands e x.next n t v

  -- the tree stands for a value of the datatype, of at most this height
  pub record StandsUpTo (e : D) (a : ℕ → Bool) (n : Naming) (t : T) (of : DataId) (h : ℕ) : Type 0 where
    pub value : Value
    pub stands : m.Stands e a n t value
    pub sort : IsOfData types of value
    pub most : value_height value ≤ h

  -- the tree stands for no value, and neither an input nor a condition came in
  pub record IsNothing (d : D) (gs : List Gate) (e : D) (hs : List Gate) (t : T) : Type 0 where
    pub stands : (n : Naming) (a : ℕ → Bool) (v : Value) → m.Stands e a n t v → ⊥
    pub steady : Steady m d gs e hs

  -- `unknown`: a tree of the asked height. A good assignment extends so that it stands for any value of the datatype,
  -- of at most this height in an exact domain, and that the naming names in another. In an exact domain it stands for
  -- nothing else, and for nothing at all with the height 0, where nothing was added
  pub record IsUnknown (d : D) (gs : List Gate) (e : D) (hs : List Gate) (t : T) (of : DataId) (h : ℕ) : Type 0 where
    pub node : m.Node e t
    pub data_of : m.data_of e t ≡ of
    pub height : m.height e t ≡ h
    pub chosen : (n : Naming) (a : ℕ → Bool) (v : Value) → Good m types d gs n a → IsOfData types of v
        → (m.exact ≡ true → value_height v ≤ h) → Inexact m (HasNumber n of v) → Chosen gs n a e hs t v
    pub bounded : m.exact ≡ true → 1 ≤ h → (n : Naming) (a : ℕ → Bool) → Good m types e hs n a → StandsUpTo e a n t of h
    pub nothing : m.exact ≡ true → h ≡ 0 → IsNothing d gs e hs t

  -- `construct`: the tree stands for the constructor with the values of its fields
  pub record IsConstruct (d : D) (gs : List Gate) (e : D) (hs : List Gate) (c : CtorId) (fields : List (Symbol T))
      (t : T)
      : Type 0 where
    pub node : m.Node e t
    pub data_of : IsCtorOf types c (m.data_of e t)
    pub height : m.height e t ≡ 1 + greatest (map (symbol_height m d) fields)
    pub looks : LooksAt m d gs e hs t (m.data_of e t)
    pub means : (n : Naming) (a : ℕ → Bool) (vs : List Value) → Good m types e hs n a → SymbolsStand m e a n fields vs
        → m.Stands e a n t (Tree c vs)
    pub extends : (n : Naming) (a : ℕ → Bool) → Good m types d gs n a
        → Inexact m ((vs : List Value) × SymbolsStand m d a n fields vs × Names types n (Tree c vs))
        → Extended m types gs n a e hs

  -- `is_ctor`: whether the tree's value has the constructor
  pub record IsCtorTest (d : D) (gs : List Gate) (e : D) (hs : List Gate) (t : T) (c : CtorId) (l : Literal) : Type 0
    where
      pub of : IsOf hs l
      pub looks : LooksAt m d gs e hs t (m.data_of d t)
      pub means : (n : Naming) (a : ℕ → Bool) (v : Value) → Good m types e hs n a → m.Stands e a n t v
          → (lit_value a l ≡ true) ↔ HasCtor c v
      pub extends : (n : Naming) (a : ℕ → Bool) → Good m types d gs n a
          → Inexact m ((v : Value) × m.Stands d a n t v × NamesFields types n v) → Extended m types gs n a e hs

  -- `field`: the value's field. Where the value has another constructor, the default; in an exact domain then anything
  pub record IsFieldRead (d : D) (gs : List Gate) (e : D) (hs : List Gate) (t : T) (c : CtorId) (place : ℕ) (s : Sort)
      (r : Symbol T) : Type 0 where
    pub of : IsSymbol m e hs s r
    pub height : symbol_height m e r ≡ height_at (m.height d t - 1) s
    pub looks : LooksAt m d gs e hs t (m.data_of d t)
    pub means : (n : Naming) (a : ℕ → Bool) (v u : Value) → Good m types e hs n a → m.Stands e a n t v
        → IsFieldOf n c place s v u → (m.exact ≡ true → HasCtor c v) → SymbolStands m e a n r u
    pub extends : (n : Naming) (a : ℕ → Bool) → Good m types d gs n a
        → Inexact m ((v u : Value) × m.Stands d a n t v × NamesFields types n v × IsFieldOf n c place s v u)
        → Extended m types gs n a e hs

  -- `merge`: the left value where the choice is true, and else the right one
  pub record IsMerge (d : D) (gs : List Gate) (e : D) (hs : List Gate) (choice : Literal) (left right : T) (t : T)
      : Type 0 where
    pub node : m.Node e t
    pub data_of : m.data_of e t ≡ m.data_of d left
    pub height : m.height e t ≡ max (m.height d left) (m.height d right)
    pub means : (n : Naming) (a : ℕ → Bool) (v : Value) → Good m types e hs n a
        → m.Stands e a n (if lit_value a choice then left else right) v → m.Stands e a n t v
    pub extends : (n : Naming) (a : ℕ → Bool) → Good m types d gs n a
        → Inexact m ((v w : Value) × m.Stands d a n left v × m.Stands d a n right w
        × Names types n (if lit_value a choice then v else w))
        → Extended m types gs n a e hs

  -- `equal`: whether the two values are equal
  pub record IsEquality (d : D) (gs : List Gate) (e : D) (hs : List Gate) (left right : T) (l : Literal) : Type 0 where
    pub of : IsOf hs l
    pub means : (n : Naming) (a : ℕ → Bool) (v w : Value) → Good m types e hs n a → m.Stands e a n left v
        → m.Stands e a n right w → (lit_value a l ≡ true) ↔ (v ≡ w)
    pub extends : (n : Naming) (a : ℕ → Bool) → Good m types d gs n a
        → Inexact m ((v w : Value) × m.Stands d a n left v × m.Stands d a n right w) → Extended m types gs n a e hs

  -- `below`: where it is true, the new value is a proper subtree of the old one; in an exact domain it is true there
  pub record IsComparison (d : D) (gs : List Gate) (e : D) (hs : List Gate) (new old : T) (l : Literal) : Type 0 where
    pub of : IsOf hs l
    pub sound : (n : Naming) (a : ℕ → Bool) (v w : Value) → Good m types e hs n a → m.Stands e a n new v
        → m.Stands e a n old w → lit_value a l ≡ true → IsBelow v w
    pub exact : m.exact ≡ true → (n : Naming) (a : ℕ → Bool) (v w : Value) → Good m types e hs n a
        → m.Stands e a n new v
        → m.Stands e a n old w → IsBelow v w → lit_value a l ≡ true
    pub extends : (n : Naming) (a : ℕ → Bool) → Good m types d gs n a
        → Inexact m ((v w : Value) × m.Stands d a n new v × m.Stands d a n old w) → Extended m types gs n a e hs
