-- Constructors, one after another.
use Rattle.std.proofs.Common.{◌≡◌, ◌∙◌, ℕ, ◌+◌, ◌<◌, ◌^◌, List, [], ◌∷◌, ◌++◌, Result, Ok, Err, IfOk, count_by, nat_eq}
use Rattle.std.proofs.Common.{drop, drop-cons, get_or, length, sym, ap, subst, arith, add-one}
use Rattle.std.proofs.lemmas.List.{length-map, get_or-map}
use Rattle.std.proofs.lemmas.List.Elements.{All-get_or}
use Rattle.std.specs.Borrow.{Bor}
use Rattle.pp_declared.specs.Declare.{ctors_after, next_ctor, signature, signatures_after}
use Rattle.pp_declared.specs.Listed.{ClassIn, DefIn}
use Rattle.pp_declared.specs.Shown.{AreFew, AreFewOfDefs, class_in, class_ins, def_in, def_ins}
use Rattle.pp_declared.specs.WellFormed.{most_ctors}
use Rattle.pp_declared.specs.declared.listed.ClassAt.{ClassAt}
use Rattle.pp_declared.specs.declared.listed.DefAt.{DefAt}
use Rattle.pp_fault.specs.Part.{and_then}
use Rattle.pp_fault.specs.declared.Halt.{Halt}
use Rattle.pp_typed.specs.declared.declared.Signature.{Signature}
use Rattle.pp_typed.specs.declared.typed.TypedCtor.{TypedCtor}
use Rattle.pp_typed.specs.declared.typed.TypedRoot.{TypedRoot}

pub few_at : (cs : List ClassAt) (i : ℕ) (d : ClassAt) → i < length cs → AreFew (class_ins cs)
    → length (class_in (get_or cs i d)).class.params < 2 ^ 32
few_at cs i d lt few =
    let within : i < length (class_ins cs) = omega (arith, length-map cs class_in) in
    subst (λ (c : ClassIn). length c.class.params < 2 ^ 32) (get_or-map class_in cs i d (class_in d) lt)
    (All-get_or (λ (c : ClassIn). length c.class.params < 2 ^ 32) (class_ins cs) i (class_in d) within few)

pub few_params_at : (cs : List ClassAt) (i : ℕ) (d : ClassAt) → i < length cs → AreFew (class_ins cs)
    → length (get_or cs i d).class.params.now < 2 ^ 32
few_params_at cs i d lt few =
    subst (λ n. n < 2 ^ 32) (length-map (get_or cs i d).class.params.now (λ (p : Bor (List ℕ)). p.now))
    (few_at cs i d lt few)

pub few_at_def : (ds : List DefAt) (i : ℕ) (d : DefAt) → i < length ds → AreFewOfDefs (def_ins ds)
    → length (def_in (get_or ds i d)).def.type_params < 2 ^ 32
few_at_def ds i d lt few =
    let within : i < length (def_ins ds) = omega (arith, length-map ds def_in) in
    subst (λ (c : DefIn). length c.def.type_params < 2 ^ 32) (get_or-map def_in ds i d (def_in d) lt)
    (All-get_or (λ (c : DefIn). length c.def.type_params < 2 ^ 32) (def_ins ds) i (def_in d) within few)

pub ctors_step : (roots : List ClassIn) (before : List TypedCtor) (cs : List ClassAt) (i : ℕ) (d : ClassAt)
    → i < length cs
    → ctors_after roots before (class_ins (drop i cs))
    ≡ and_then (next_ctor roots before (class_in (get_or cs i d))) (λ t. ctors_after roots (before ++ t ∷ [])
    (class_ins (drop (i + 1) cs)))
ctors_step roots before cs i d lt =
    ap (λ l. ctors_after roots before (class_ins l)) (drop-cons cs i d lt
    ∙ ap (λ k. get_or cs i d ∷ drop k cs) (sym (add-one i)))

pub signatures_step : (roots : List TypedRoot) (before : List Signature) (ds : List DefAt) (i : ℕ) (d : DefAt)
    → i < length ds
    → signatures_after roots before (def_ins (drop i ds))
    ≡ and_then (signature roots (def_in (get_or ds i d))) (λ s. signatures_after roots (before ++ s ∷ []) (def_ins
    (drop (i + 1) ds)))
signatures_step roots before ds i d lt =
    ap (λ l. signatures_after roots before (def_ins l)) (drop-cons ds i d lt
    ∙ ap (λ k. get_or ds i d ∷ drop k ds) (sym (add-one i)))

pub room_for : (r : Result TypedCtor Halt) (root : ℕ) (os : List ℕ) → IfOk r (λ t. t.root ≡ root)
    → count_by (nat_eq root) os < most_ctors
    → IfOk r (λ t. count_by (nat_eq t.root) os < most_ctors)
room_for (Ok t) root os is room = subst (λ k. count_by (nat_eq k) os < most_ctors) (sym is) room
room_for (Err h) root os is room = tt
