-- The functions of units, one at a time.
use Rattle.std.proofs.Common.{◌≡◌, ◌∙◌, ℕ, ◌+◌, ◌<◌, ◌^◌, List, [], ◌∷◌, ◌++◌, All, Result, Ok, Err, length, drop}
use Rattle.std.proofs.Common.{get_or, sym, ap, subst, arith}
use Rattle.std.proofs.lemmas.List.{drop_more, get_or-map, length-map}
use Rattle.std.proofs.lemmas.List.Elements.{All-nil, All-cons, All-get_or}
use Rattle.pp_declared.proofs.Sound.{declares_sound}
use Rattle.pp_declared.proofs.Steps.{all_first, all_rest}
use Rattle.pp_declared.specs.Declare.{declare}
use Rattle.pp_declared.specs.Listed.{DefIn, decls_in, defs_of}
use Rattle.pp_declared.specs.Shown.{AreFewOfDefs, def_in, def_ins}
use Rattle.pp_declared.specs.declared.listed.DefAt.{DefAt}
use Rattle.pp_fault.specs.declared.Halt.{Halt}
use Rattle.pp_fault.specs.Part.{Part, Tells, and_then}
use Rattle.pp_fault.proofs.Parts.{goes, stops_as}
use Rattle.pp_rules.specs.Bodies.{elab_def}
use Rattle.pp_tree.specs.Plain.{UnitTree}
use Rattle.pp_tree.specs.Shown.{def_of}
use Rattle.pp_typed.specs.declared.declared.Declared.{Declared}
use Rattle.pp_typed.specs.declared.declared.Signature.{Signature}
use Rattle.pp_typed.specs.declared.typed.TypedDef.{TypedDef}
use Rattle.pp_types.proofs.Checked.{counted}
use Rattle.pp_types.specs.Functions.{defs_after}
use Rattle.pp_types_laws.proofs.Declarations.{DefHead, def_heads}

-- the rest of the functions after a turn, and where a turn stops
module _ (declared : Declared) (whole : Part (List TypedDef)) (defs : List DefAt) (ss : List Signature) (i : ℕ)
    (d : DefAt)
    (s : Signature) (done : List TypedDef) (ld : i < length defs) (ls : i < length ss)
    (e : whole ≡ defs_after declared done (def_ins (drop i defs)) (drop i ss)) where
  abbrev one : Part TypedDef
  one = elab_def declared (get_or defs i d).source (def_of (get_or defs i d).def) (get_or ss i s)

  abbrev rest : TypedDef → Part (List TypedDef)
  rest t = defs_after declared (done ++ t ∷ []) (def_ins (drop (i + 1) defs)) (drop (i + 1) ss)

  here : whole ≡ and_then one rest
  here =
      e ∙ ap (λ l. defs_after declared done (def_ins l) (drop i ss)) (drop_more defs i d ld)
      ∙ ap (defs_after declared done (def_ins (get_or defs i d ∷ drop (i + 1) defs))) (drop_more ss i s ls)

  pub defs_turn : (t : TypedDef) (more : List TypedDef) → more ≡ done ++ t ∷ [] → one ≡ Ok t
      → whole ≡ defs_after declared more (def_ins (drop (i + 1) defs)) (drop (i + 1) ss)
  defs_turn t more push is =
      here ∙ goes one rest t is ∙ ap (λ l. defs_after declared l (def_ins (drop (i + 1) defs)) (drop (i + 1) ss))
      (sym push)

  pub defs_stop : (r : Result (List TypedDef) Halt) (h : Halt) → r ≡ Err h → Tells {A = TypedDef} (Err h) one
      → Tells r whole
  defs_stop r h is told = stops_as r h one whole rest is here told

-- a function has few type parameters
pub few_at : (defs : List DefAt) (i : ℕ) (d : DefAt) → AreFewOfDefs (def_ins defs) → i < length defs
    → length (get_or defs i d).def.type_params.now < 2 ^ 32
few_at defs i d few lt =
    let within : i < length (def_ins defs) = omega (arith, lt, length-map defs def_in) in
    let at = All-get_or (λ (x : DefIn). length x.def.type_params < 2 ^ 32) (def_ins defs) i (def_in d) within few in
    let same = ap (λ (x : DefIn). length x.def.type_params) (get_or-map def_in defs i d (def_in d) lt)
    ∙ length-map (get_or defs i d).def.type_params.now (λ p. p.now) in
    omega (arith, at, same)

few_of_heads : (ds : List DefIn) → All DefHead ds → AreFewOfDefs ds
few_of_heads [] h = All-nil (λ (x : DefIn). length x.def.type_params < 2 ^ 32)
few_of_heads (d ∷ ds) h =
    let head = all_first DefHead d ds h in
    let few = head.few_type_params in
    All-cons (λ (x : DefIn). length x.def.type_params < 2 ^ 32) d ds (omega (arith, few))
    (few_of_heads ds (all_rest DefHead d ds h))

module _ (units : List UnitTree) (d : Declared) (e : declare units ≡ Ok d) (defs : List DefAt)
    (is : def_ins defs ≡ defs_of (decls_in units)) where
  pub few_defs : AreFewOfDefs (def_ins defs)
  few_defs =
      subst AreFewOfDefs (sym is)
      (few_of_heads (defs_of (decls_in units)) (def_heads (decls_in units) (declares_sound units d e).well_formed))

  pub defs_counted : length defs ≡ length d.functions
  defs_counted = sym (length-map defs def_in) ∙ ap length is ∙ counted units d e
