-- The call graph of the functions of a program, from the typed functions.
use Rattle.std.proofs.Common.{◌≡◌, ℕ, ◌+◌, ◌<◌, ◌≤◌, List, [], ◌∷◌, ◌++◌, take, length, get_or, Option, Some, None}
use Rattle.std.proofs.Common.{refl, sym, ap, ◌∙◌, subst, arith, append_assoc, length-append}
use Rattle.std.proofs.lemmas.List.{append-nil, take_more}
use Rattle.std.specs.Prelude.{slice_get}
use Rattle.pp_list.specs.Joined.{joined}
use Rattle.pp_call_graph.proofs.Conditions.{both_parts, calls_of_one}
use Rattle.pp_call_graph.proofs.Numberless.{table_of_bare}
use Rattle.pp_call_graph.proofs.Translated.{calls_of_translation, calls_of_translations}
use Rattle.pp_call_graph.specs.Groups.{AreGroupsOf}
use Rattle.pp_call_graph.specs.TypedCalls.{calls_at, def_calls, row_at, row_if}
use Rattle.pp_call_graph.specs.TypedCalls as typed_side
use Rattle.pp_graph.specs.Reaches.{AreGroups}
use Rattle.pp_instances.specs.declared.member.Instance.{Instance}
use Rattle.pp_instances.specs.declared.member.Member.{Member}
use Rattle.pp_prog.specs.Calls.{call_table, function_calls, post_calls}
use Rattle.pp_prog.specs.declared.expr.Function.{Function}
use Rattle.pp_translation.specs.Functions.{function_if, function_of, functions_of, post_at}
use Rattle.pp_typed.specs.declared.sort.GenericSort.{GenericSort}
use Rattle.pp_typed.specs.declared.typed.Typed.{Typed}
use Rattle.pp_typed.specs.declared.typed.TypedDef.{TypedDef}
use Rattle.pp_typed.specs.declared.typed.TypedPost.{TypedPost}

abbrev Ns : Type 0
Ns = List ℕ

calls_push : (typed : Typed) (functions : List Member) (is : List Instance) (i : Instance)
    → calls_at typed functions (is ++ i ∷ [])
    ≡ calls_at typed functions is ++ row_at typed functions i
calls_push typed functions [] i = append-nil (row_at typed functions i)
calls_push typed functions (j ∷ js) i =
    let first = row_at typed functions j in
    ap (λ (l : List Ns). first ++ l) (calls_push typed functions js i)
    ∙ sym (append_assoc first (calls_at typed functions js) (row_at typed functions i))

-- one more instance
pub calls_turn : (typed : Typed) (functions : List Member) (is : List Instance) (n : ℕ) (i : Instance) → n < length is
    → i ≡ get_or is n i
    → calls_at typed functions (take (n + 1) is)
    ≡ calls_at typed functions (take n is) ++ row_at typed functions i
calls_turn typed functions is n i lt at =
    ap (calls_at typed functions) (take_more is n i lt)
    ∙ ap (λ (z : Instance). calls_at typed functions (take n is ++ z ∷ [])) (sym at)
    ∙ calls_push typed functions (take n is) i

module _ (typed : Typed) (texts : List (List ℕ)) (roots functions : List Member) where
  of_post : (args : List GenericSort) (post : Option TypedPost)
      → post_calls (post_at typed texts roots functions args post) ≡ typed_side.post_calls functions args post
  of_post args None = refl
  of_post args (Some post) = calls_of_translation typed roots functions args post.claim

  of_function : (i : Instance) (d : TypedDef)
      → function_calls (function_of typed texts roots functions i d) ≡ def_calls functions i.args d
  of_function i d =
      both_parts (both_parts (both_parts
      (calls_of_one _ ∙ ap joined (calls_of_translations typed roots functions i.args d.pre))
      (ap joined (calls_of_translations typed roots functions i.args d.measure)))
      (calls_of_translation typed roots functions i.args d.body)) (of_post i.args d.post)

  of_instance : (i : Instance) (d : Option TypedDef) (rest : List Function)
      → call_table (function_if typed texts roots functions i d ++ rest) ≡ row_if functions i.args d ++ call_table rest
  of_instance i None rest = refl
  of_instance i (Some d) rest = ap (λ (l : Ns). l ∷ call_table rest) (of_function i d)

  -- the functions of the instances call what the typed functions call
  pub table_is : (is : List Instance)
      → call_table (functions_of typed texts roots functions is) ≡ calls_at typed functions is
  table_is [] = refl
  table_is (i ∷ is) =
      of_instance i (slice_get typed.defs i.number) (functions_of typed texts roots functions is)
      ∙ ap (λ (l : List Ns). row_at typed functions i ++ l) (table_is is)

-- the groups of the typed functions' call graph are those of the program's functions
pub groups_are : (typed : Typed) (functions : List Member) (is : List Instance) (groups : Ns)
    → AreGroups (calls_at typed functions is) groups → AreGroupsOf typed functions is groups
groups_are typed functions is groups h texts roots fs same =
    subst (λ (calls : List Ns). AreGroups calls groups)
    (sym (table_is typed texts roots functions is) ∙ ap call_table (sym same) ∙ table_of_bare fs) h

one_at_most : (functions : List Member) (args : List GenericSort) (d : Option TypedDef)
    → length (row_if functions args d) ≤ 1
one_at_most functions args None = omega arith
one_at_most functions args (Some d) = omega arith

-- there are no more functions than instances
pub few_calls : (typed : Typed) (functions : List Member) (is : List Instance)
    → length (calls_at typed functions is) ≤ length is
few_calls typed functions [] = omega arith
few_calls typed functions (i ∷ is) =
    let row = row_at typed functions i in
    let one = one_at_most functions i.args (slice_get typed.defs i.number) in
    let more = few_calls typed functions is in
    let both = length-append row (calls_at typed functions is) in
    omega arith
