-- Functions are told by their forms without numbers and their slots.
use Rattle.std.proofs.Common.{◌≡◌, List, [], ◌∷◌, ◌++◌, map, Option, Some, None, refl, sym, ap, ◌∙◌, append_assoc}
use Rattle.std.specs.Option.{option_map}
use Rattle.pp_list.specs.Joined.{joined}
use Rattle.pp_prog.specs.declared.expr.Expr.{Expr}
use Rattle.pp_prog.specs.declared.expr.Function.{Function}
use Rattle.pp_prog.specs.declared.id.CheckId.{CheckId}
use Rattle.pp_translation.specs.Bare.{bare, bare_function, bare_post}
use Rattle.pp_mono_laws.proofs.Refill.{Made, behind, fill, fill_each, fill_guard, first, made_then, or_unnumbered}
use Rattle.pp_mono_laws.proofs.Refill.{refilled, then}
use Rattle.pp_mono_laws.proofs.Slots.{Slots, all_slots, function_slots, post_slots, pre_slots, slots}

abbrev Post : Type 0
Post = Option (CheckId × Expr)

abbrev fill_post : Post → Slots → Made Post
fill_post None cs = (None, cs)
fill_post (Some post) cs = then (fill post.1 cs) (λ x ds. (Some (or_unnumbered (first ds), x), behind ds))

abbrev with_parts : Function → Option Expr → List Expr → Expr → Post → Function
with_parts f pre measure body post = record {
  name = f.name;
  place = f.place;
  params = f.params;
  result = f.result;
  pre = pre;
  measure = measure;
  body = body;
  post = post;
}

abbrev last_part : Function → Option Expr → List Expr → Expr → Slots → Made Function
last_part f pre es body cs = then (fill_post f.post cs) (λ post ds. (with_parts f pre es body post, ds))

abbrev body_part : Function → Option Expr → List Expr → Slots → Made Function
body_part f pre es cs = then (fill f.body cs) (last_part f pre es)

abbrev measure_part : Function → Option Expr → Slots → Made Function
measure_part f pre cs = then (fill_each (map fill f.measure) cs) (body_part f pre)

-- the function, filled with slots
abbrev fill_function : Function → Slots → Made Function
fill_function f cs = then (fill_guard (option_map fill f.pre) cs) (measure_part f)

refilled_pre : (pre : Option Expr) (rest : Slots)
    → fill_guard (option_map fill (option_map bare pre)) (pre_slots pre ++ rest) ≡ (pre, rest)
refilled_pre None rest = refl
refilled_pre (Some e) rest = made_then (λ x ds. (Some x, ds)) (refilled e rest)

refilled_all : (es : List Expr) (rest : Slots)
    → fill_each (map fill (map bare es)) (joined (map slots es) ++ rest) ≡ (es, rest)
refilled_all [] rest = refl
refilled_all (e ∷ es) rest =
    let fills = map fill (map bare es) in
    let go : Expr → Slots → Made (List Expr) = λ x ds. then (fill_each fills ds) (λ xs gs. (x ∷ xs, gs)) in
    ap (λ l. then (fill (bare e) l) go) (append_assoc (slots e) (joined (map slots es)) rest)
    ∙ made_then go (refilled e (joined (map slots es) ++ rest))
    ∙ made_then (λ xs gs. (e ∷ xs, gs)) (refilled_all es rest)

refilled_post : (post : Post) (rest : Slots) → fill_post (bare_post post) (post_slots post ++ rest) ≡ (post, rest)
refilled_post None rest = refl
refilled_post (Some post) rest =
    let go : Expr → Slots → Made Post = λ x ds. (Some (or_unnumbered (first ds), x), behind ds) in
    ap (λ l. then (fill (bare post.1) l) go) (append_assoc (slots post.1) (Some post.0 ∷ []) rest)
    ∙ made_then go (refilled post.1 (Some post.0 ∷ rest))

-- four parts and a rest
four : (a b c d e : Slots) → (a ++ b ++ c ++ d) ++ e ≡ a ++ (b ++ (c ++ (d ++ e)))
four a b c d e = append_assoc (a ++ b ++ c) d e ∙ append_assoc (a ++ b) c (d ++ e) ∙ append_assoc a b (c ++ (d ++ e))

refilled_function : (f : Function) (rest : Slots)
    → fill_function (bare_function f) (function_slots f ++ rest) ≡ (f, rest)
refilled_function f rest =
    let b = bare_function f in
    ap (fill_function b)
    (four (pre_slots f.pre) (joined (map slots f.measure)) (slots f.body) (post_slots f.post) rest)
    ∙ made_then (measure_part b) (refilled_pre f.pre _)
    ∙ made_then (body_part b f.pre) (refilled_all f.measure _)
    ∙ made_then (last_part b f.pre f.measure) (refilled f.body _)
    ∙ made_then (λ post ds. (with_parts b f.pre f.measure f.body post, ds)) (refilled_post f.post rest)

refilled_functions : (fs : List Function) (rest : Slots)
    → fill_each (map fill_function (map bare_function fs)) (all_slots fs ++ rest) ≡ (fs, rest)
refilled_functions [] rest = refl
refilled_functions (f ∷ fs) rest =
    let fills = map fill_function (map bare_function fs) in
    let go : Function → Slots → Made (List Function) = λ x ds. then (fill_each fills ds) (λ xs gs. (x ∷ xs, gs)) in
    ap (λ l. then (fill_function (bare_function f) l) go) (append_assoc (function_slots f) (all_slots fs) rest)
    ∙ made_then go (refilled_function f (all_slots fs ++ rest))
    ∙ made_then (λ xs gs. (f ∷ xs, gs)) (refilled_functions fs rest)

-- functions with the same forms and the same slots are the same
pub one_by_slots : (fs gs : List Function)
    → map bare_function fs ≡ map bare_function gs → all_slots fs ≡ all_slots gs → fs ≡ gs
one_by_slots fs gs forms same =
    let filled : List Function → Slots → List Function = λ bs cs. (fill_each (map fill_function bs) (cs ++ [])).0 in
    sym (ap (λ (m : Made (List Function)). m.0) (refilled_functions fs []))
    ∙ ap (λ bs. filled bs (all_slots fs)) forms ∙ ap (filled (map bare_function gs)) same
    ∙ ap (λ (m : Made (List Function)). m.0) (refilled_functions gs [])
