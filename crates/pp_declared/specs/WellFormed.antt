-- What a declaration keeps by itself: its limits, and the names that it declares. Source: own; the limits are those
-- of the language.
use Rattle.std.specs.Prelude.{◌≡◌, ℕ, ◌≤◌, Bool, true, false, ◌||◌, List, [], ◌∷◌, ◌++◌, Ok, length, map, nat_eq}
use Rattle.std.specs.Prelude.{nat_le, if◌then◌else◌}
use Rattle.std.specs.List.{list_any}
use Rattle.pp_fault.specs.Part.{Part, fault}
use Rattle.pp_fault.specs.declared.Rule.TheVariants.{Duplicate, Mismatch, OverLimit}
use Rattle.pp_names.specs.Places.{Word, has}
use Rattle.pp_names.specs.Reserved.{is_reserved}
use Rattle.pp_tree.specs.Plain.{ParamTree, DeclTree, root, ctor, other, def}

-- at most 16 parameters or fields, and 4 type parameters
abbrev pub most_params : ℕ
most_params = 16

abbrev pub most_type_params : ℕ
most_type_params = 4

-- at most 64 constructors of one root
abbrev pub most_ctors : ℕ
most_ctors = 64

-- the marks that stand between the parts of a printed type: `,`, `[` and `]`
abbrev pub is_mark : ℕ → Bool
is_mark b = nat_eq b 44 || (nat_eq b 91 || nat_eq b 93)

-- a name that can't be declared: a reserved word, or a name with a mark of printed types, which no source spells
abbrev pub is_barred : Word → Bool
is_barred w = is_reserved w || list_any is_mark w

-- a name can't be declared after these: it is one of them, or can't be declared at all
abbrev pub is_taken : List Word → Word → Bool
is_taken before w = is_barred w || has w before

-- the names with one more, where it can be declared after them
abbrev pub with_new : List Word → Word → List Word
with_new before w = if is_taken before w then before else before ++ w ∷ []

-- each name can be declared after these and those before it
abbrev pub AreNewAfter : List Word → List Word → Type 0
AreNewAfter before [] = Unit {0}
AreNewAfter before (w ∷ ws) = (is_taken before w ≡ false) × AreNewAfter (before ++ w ∷ []) ws

abbrev pub AreNew : List Word → Type 0
AreNew = AreNewAfter []

abbrev pub param_names : List ParamTree → List Word
param_names ps = map (λ (p : ParamTree). p.name) ps

-- the type parameters and the parameters, or fields, of a declaration
pub record IsHead (type_params : List Word) (params : List ParamTree) : Type 0 where
  pub few_type_params : length type_params ≤ most_type_params
  pub type_params_new : AreNew type_params
  pub few_params : length params ≤ most_params
  pub params_new : AreNew (param_names params)

-- a class or a trait that is neither a root nor a constructor isn't well formed
abbrev pub IsWellFormed : DeclTree → Type 0
IsWellFormed (root c) = IsHead c.params c.fields
IsWellFormed (ctor c) = IsHead c.params c.fields
IsWellFormed (other c) = ⊥
IsWellFormed (def d) = IsHead d.type_params d.params

-- whether each name can be declared after these and those before it
abbrev pub are_new_after : List Word → List Word → Bool
are_new_after before [] = true
are_new_after before (w ∷ ws) = if is_taken before w then false else are_new_after (before ++ w ∷ []) ws

module _ (source : ℕ) where
  -- the first parameter whose name can't be declared after these names is a duplicate
  abbrev pub params_new_after : List Word → List ParamTree → Part (Unit {0})
  params_new_after before [] = Ok tt
  params_new_after before (p ∷ ps) =
      if is_taken before p.name then fault Duplicate p.name source p.at else params_new_after (before ++ p.name ∷ []) ps

  abbrev pub params_checked : ℕ → Word → List ParamTree → Part (Unit {0})
  params_checked at w ps = if nat_le (length ps) most_params then params_new_after [] ps
      else fault OverLimit w source at

  abbrev pub head_checked : ℕ → Word → List Word → List ParamTree → Part (Unit {0})
  head_checked at w ts ps =
      if nat_le (length ts) most_type_params
      then (if are_new_after [] ts then params_checked at w ps else fault Duplicate w source at)
      else fault OverLimit w source at

  -- what a declaration breaks by itself
  abbrev pub checked : DeclTree → Part (Unit {0})
  checked (root c) = head_checked c.at c.name c.params c.fields
  checked (ctor c) = head_checked c.at c.name c.params c.fields
  checked (other c) = fault Mismatch c.name source c.at
  checked (def d) = head_checked d.at d.name d.type_params d.params
