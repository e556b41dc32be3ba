-- The printed names of functions have no newline and no colon, and begin with no blank.
use Rattle.std.proofs.Common.{◌≡◌, ◌≢◌, ◌<◌, ℕ, List, [], ◌∷◌, ◌++◌, Option, Some}
use Rattle.std.proofs.Common.{None, map, refl, sym, subst, arith}
use Rattle.std.specs.Prelude.{slice_get}
use Rattle.pp_list.specs.Joined.{joined}
use Rattle.pp_instances.specs.Names.{after_comma, bracketed, decl_name, def_name, print_step, printed, printed_sort}
use Rattle.pp_instances.specs.Names.{root_name}
use Rattle.pp_instances.specs.declared.member.Decl.{Decl}
use Rattle.pp_instances.specs.declared.member.Decl.TheVariants.{Function, Root}
use Rattle.pp_instances.specs.declared.member.Member.{Member}
use Rattle.pp_tokens.proofs.Every.{Every}
use Rattle.pp_line_contents.proofs.Spans.{every_append, every_contained, every_of}
use Rattle.pp_line_contents.specs.Laws.{BeginsPlainly, HasNoColon}
use Rattle.pp_plain_names.proofs.Names.{no_mark}
use Rattle.pp_plain_names.specs.Laws.{IsWord}
use Rattle.pp_typed.specs.WellSorted.{boolean_name, int_name}
use Rattle.pp_typed.specs.declared.sort.GenericSort.{GenericSort}
use Rattle.pp_typed.specs.declared.sort.GenericSort.TheFolds.{fold-roll-GenericSort, ind-GenericSort, map-GenericSort}
use Rattle.pp_typed.specs.declared.sort.GenericSort.TheOpen as layer
use Rattle.pp_typed.specs.declared.sort.GenericSort.TheViews.{roll-GenericSort}
use Rattle.pp_typed.specs.declared.typed.Typed.{Typed}
use Rattle.pp_typed.specs.declared.typed.TypedDef.{TypedDef}
use Rattle.pp_typed.specs.declared.typed.TypedRoot.{TypedRoot}

abbrev IsFine : ℕ → Type 0
IsFine b = (b ≢ 10) × (b ≢ 58)

word_fine : (w : List ℕ) → IsWord w → Every IsFine w
word_fine w word =
    every_of IsFine w
    (λ b here. (no_mark w 10 (omega arith) refl word b here, no_mark w 58 (omega arith) refl word b here))

-- a byte above the colon is fine
above : (b : ℕ) → 58 < b → IsFine b
above b lt = ((λ e. omega (arith, e, lt)), (λ e. omega (arith, e, lt)))

int_fine : Every IsFine int_name
int_fine = (above 73 (omega arith), (above 110 (omega arith), (above 116 (omega arith), tt)))

boolean_fine : Every IsFine boolean_name
boolean_fine = (
  above 66 (omega arith),
  (
    above 111 (omega arith),
    (
      above 111 (omega arith),
      (
        above 108 (omega arith),
        (above 101 (omega arith), (above 97 (omega arith), (above 110 (omega arith), tt))),
      ),
    ),
  ),
)

comma_fine : IsFine 44
comma_fine = ((λ e. omega (arith, e)), (λ e. omega (arith, e)))

blank_fine : IsFine 32
blank_fine = ((λ e. omega (arith, e)), (λ e. omega (arith, e)))

-- each name is fine
abbrev AllFine : List (List ℕ) → Type 0
AllFine [] = Unit {0}
AllFine (w ∷ ws) = Every IsFine w × AllFine ws

joined_fine : (ws : List (List ℕ)) → AllFine ws → Every IsFine (joined (map after_comma ws))
joined_fine [] h = tt
joined_fine (w ∷ ws) h =
    (comma_fine, (blank_fine, every_append IsFine w (joined (map after_comma ws)) h.0 (joined_fine ws h.1)))

bracketed_fine : (ws : List (List ℕ)) → AllFine ws → Every IsFine (bracketed ws)
bracketed_fine [] h = tt
bracketed_fine (w ∷ ws) h = (
  above 91 (omega arith),
  every_append IsFine w (joined (map after_comma ws) ++ 93 ∷ []) h.0
      (every_append IsFine (joined (map after_comma ws)) (93 ∷ []) (joined_fine ws h.1) (above 93 (omega arith), tt)),
)

-- ---- the first byte

word_begins : (w : List ℕ) → IsWord w → BeginsPlainly w
word_begins [] word = tt
word_begins (b ∷ bs) word = no_mark (b ∷ bs) 32 (omega arith) refl word b (0, omega arith, refl)

-- a bracket is no blank
bracketed_begins : (ws : List (List ℕ)) → BeginsPlainly (bracketed ws)
bracketed_begins [] = tt
bracketed_begins (w ∷ ws) = λ e. omega (arith, e)

both_begin : (xs ys : List ℕ) → BeginsPlainly xs → BeginsPlainly ys → BeginsPlainly (xs ++ ys)
both_begin [] ys h k = k
both_begin (x ∷ xs) ys h k = h

-- ---- names in names

module _ (typed : Typed) (roots : (r : ℕ) (root : TypedRoot) → slice_get typed.roots r ≡ Some root → IsWord root.name)
    (defs : (f : ℕ) (d : TypedDef) → slice_get typed.defs f ≡ Some d → IsWord d.name) where
  root_fine : (o : Option TypedRoot) → ((root : TypedRoot) → o ≡ Some root → IsWord root.name)
      → Every IsFine (root_name o)
  root_fine None h = tt
  root_fine (Some root) h = word_fine root.name (h root refl)

  def_fine : (o : Option TypedDef) → ((d : TypedDef) → o ≡ Some d → IsWord d.name) → Every IsFine (def_name o)
  def_fine None h = tt
  def_fine (Some d) h = word_fine d.name (h d refl)

  decl_fine : (d : Decl) → Every IsFine (decl_name typed d)
  decl_fine (Function f) = def_fine (slice_get typed.defs f) (defs f)
  decl_fine (Root r) = root_fine (slice_get typed.roots r) (roots r)

  abbrev IsNamed : GenericSort → Type 0
  IsNamed s = Every IsFine (printed_sort typed s)

  abbrev NamedSort : Type 0
  NamedSort = (s : GenericSort) × IsNamed s

  abbrev sort_in : NamedSort → GenericSort
  sort_in y = y.0

  parts_fine : (ys : List NamedSort) → AllFine (map (printed_sort typed) (map sort_in ys))
  parts_fine [] = tt
  parts_fine (y ∷ ys) = (y.1, parts_fine ys)

  level : (y : layer.GenericSort-F NamedSort)
      → Every IsFine (print_step typed (map-GenericSort GenericSort (List ℕ) (printed_sort typed)
      (map-GenericSort NamedSort GenericSort sort_in y)))
  level layer.Int = int_fine
  level layer.Bool = boolean_fine
  level (layer.Param i) = tt
  level (layer.Root r ys) =
      every_append IsFine (root_name (slice_get typed.roots r)) (bracketed (map (printed_sort typed) (map sort_in ys)))
      (root_fine (slice_get typed.roots r) (roots r))
      (bracketed_fine (map (printed_sort typed) (map sort_in ys)) (parts_fine ys))

  at_level : (y : layer.GenericSort-F NamedSort)
      → IsNamed (roll-GenericSort (map-GenericSort NamedSort GenericSort sort_in y))
  at_level y =
      subst (Every IsFine)
      (sym (fold-roll-GenericSort (List ℕ) (print_step typed) (map-GenericSort NamedSort GenericSort sort_in y)))
      (level y)

  sort_fine : (s : GenericSort) → IsNamed s
  sort_fine = ind-GenericSort IsNamed (λ x y is. subst (λ z. IsNamed (roll-GenericSort z)) is (at_level y))

  sorts_fine : (ss : List GenericSort) → AllFine (map (printed_sort typed) ss)
  sorts_fine [] = tt
  sorts_fine (s ∷ ss) = (sort_fine s, sorts_fine ss)

  pub printed_fine : (m : Member) → HasNoColon (printed typed m)
  printed_fine m =
      every_contained IsFine (printed typed m)
      (every_append IsFine (decl_name typed m.of) (bracketed (map (printed_sort typed) m.args)) (decl_fine m.of)
      (bracketed_fine (map (printed_sort typed) m.args) (sorts_fine m.args)))

  root_begins : (o : Option TypedRoot) → ((root : TypedRoot) → o ≡ Some root → IsWord root.name)
      → BeginsPlainly (root_name o)
  root_begins None h = tt
  root_begins (Some root) h = word_begins root.name (h root refl)

  def_begins : (o : Option TypedDef) → ((d : TypedDef) → o ≡ Some d → IsWord d.name) → BeginsPlainly (def_name o)
  def_begins None h = tt
  def_begins (Some d) h = word_begins d.name (h d refl)

  decl_begins : (d : Decl) → BeginsPlainly (decl_name typed d)
  decl_begins (Function f) = def_begins (slice_get typed.defs f) (defs f)
  decl_begins (Root r) = root_begins (slice_get typed.roots r) (roots r)

  pub printed_begins : (m : Member) → BeginsPlainly (printed typed m)
  printed_begins m =
      both_begin (decl_name typed m.of) (bracketed (map (printed_sort typed) m.args)) (decl_begins m.of)
      (bracketed_begins (map (printed_sort typed) m.args))
