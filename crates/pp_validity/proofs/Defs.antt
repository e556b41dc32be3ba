-- A translated function is sorted, and its sites are listed in order.
use Rattle.std.proofs.Common.{◌≡◌, ℕ, suc, true, ◌&&◌, List, [], ◌∷◌, ◌++◌, map, length, refl, sym, ap, ◌∙◌}
use Rattle.std.proofs.Common.{append_assoc, subst, arith}
use Rattle.std.specs.Prelude.{Option, Some, None, is_some, Contains, All}
use Rattle.std.proofs.lemmas.List.{append-nil, map_push}
use Rattle.std.proofs.lemmas.Bool.{and_from}
use Rattle.pp_list.specs.Joined.{joined}
use Rattle.pp_instances.specs.Uses.{mentions, post_mentions, text_mentions}
use Rattle.pp_instances.specs.declared.member.Instance.{Instance}
use Rattle.pp_instances.specs.declared.member.Member.{Member}
use Rattle.pp_prog.specs.ExprSorts.{binary_sort, has_the_sort, is_of_sort, is_sorted, is_sorted_measure}
use Rattle.pp_prog.specs.ExprSorts.{is_sorted_post, is_sorted_pre, sort_of}
use Rattle.pp_prog.specs.Listing.{Site, function_sites, measure_sites, plain, post_sites, postcondition, pre_sites}
use Rattle.pp_prog.specs.Listing.{sites}
use Rattle.pp_prog.specs.Sorts.{param_sorts as sorts_of_params, sort_of_param as sort_of_prog_param, same_sort}
use Rattle.pp_prog.specs.declared.check.CheckKind.TheVariants as check
use Rattle.pp_tree.specs.declared.operator.BinaryOp.TheVariants.{AndAlso}
use Rattle.pp_prog.specs.declared.expr.Expr.{Expr}
use Rattle.pp_prog.specs.declared.expr.Expr.TheVariants as prog
use Rattle.pp_prog.specs.declared.expr.Function.{Function}
use Rattle.pp_prog.specs.declared.id.CheckId.{CheckId}
use Rattle.pp_prog.specs.declared.sort.Sort.{Sort}
use Rattle.pp_prog.specs.declared.sort.Sort.TheVariants as of_prog
use Rattle.pp_translation.specs.Defs.{TranslatesDef, TranslatesPost, no_post, one_post, post_check}
use Rattle.pp_translation.specs.Functions.{as_one, param_at}
use Rattle.pp_translation.specs.Numbered.{Translates, TranslateAll, no_exprs, one_more}
use Rattle.pp_translation.specs.Numbers.{sort_at}
use Rattle.pp_translation.specs.Places.{def_offsets, post_offsets, site_offsets}
use Rattle.pp_translation.specs.Setting.{Setting}
use Rattle.pp_translation.specs.declared.frame.CheckAt.{CheckAt}
use Rattle.pp_translation.specs.declared.frame.Frame.{Frame}
use Rattle.pp_translation.proofs.Conditions.{Chain, LeadsIf, none_leads, one_leads, chain_push, as_one_leads}
use Rattle.pp_typed.specs.Sorted.{IsSorted, AreSorted, none_sorted, more_sorted, param_sorts, sort_of_param}
use Rattle.pp_typed.specs.Stand.{Offset}
use Rattle.pp_typed.specs.WellSorted.{HasSort, IsDef, IsPost}
use Rattle.pp_typed.specs.declared.expr.TypedExpr.{TypedExpr}
use Rattle.pp_typed.specs.declared.sort.GenericSort.{GenericSort}
use Rattle.pp_typed.specs.declared.sort.GenericSort.TheVariants as sort
use Rattle.pp_typed.specs.declared.typed.Typed.{Typed}
use Rattle.pp_typed.specs.declared.typed.TypedDef.{TypedDef}
use Rattle.pp_typed.specs.declared.typed.TypedPost.{TypedPost}
use Rattle.pp_list.proofs.Joined.{joined_push}
use Rattle.pp_validity.proofs.Carried.{lists_all, lists_expr}
use Rattle.pp_validity.proofs.Exprs.{sorted_all, sorted_expr, split}
use Rattle.pp_prog.proofs.SortForms.{Sorted, sort_of_binary}
use Rattle.pp_validity.proofs.Ground.{sort_at_bool}
use Rattle.pp_validity.proofs.Known.{HasTypes, IsGrouped, IsKnown}
use Rattle.pp_validity.proofs.Listed.{Lists, lists_append, lists_none, lists_same, one_if, plain_site}
use Rattle.pp_prog.proofs.ValueSorts.{its_sort}
use Rattle.pp_validity.proofs.Patterns.{map_map}
use Rattle.pp_prog.proofs.SiteForms.{sites_binary}
use Rattle.pp_validity.proofs.Within.{Within, in_left, in_right, in_parts}

first_same : {A : Type 0} {a b : A} {ps qs : List A} → a ∷ ps ≡ b ∷ qs → a ≡ b
first_same h = cc

rest_same : {A : Type 0} {a b : A} {ps qs : List A} → a ∷ ps ≡ b ∷ qs → ps ≡ qs
rest_same h = cc

head_of : {A : Type 0} (P : A → Type 0) (x : A) (xs : List A) → All P (x ∷ xs) → P x
head_of P x xs h = h 0 x (omega arith)

tail_of : {A : Type 0} (P : A → Type 0) (x : A) (xs : List A) → All P (x ∷ xs) → All P xs
tail_of P x xs h = λ k d lt. h (suc k) d (omega arith)

module _ (typed : Typed) (set : Setting) (ms : List Member) (fs : List Function) (known : IsKnown typed set ms fs)
    (own : Frame) (grouped : IsGrouped typed set ms fs own)
    (own_types : (s : GenericSort) → Contains own.args s → HasTypes ms s) (d : TypedDef) where
  abbrev G : GenericSort → Sort
  G s = sort_at set.roots own.args s

  abbrev some : GenericSort → Option Sort
  some s = Some (G s)

  abbrev scope : List GenericSort
  scope = param_sorts d.params

  abbrev sc : List Sort
  sc = map G scope

  abbrev In : Expr → List Site
  In x = sites set.types fs x sc

  -- ---- the sorts of lists

  abbrev bool_at : TypedExpr → GenericSort
  bool_at e = sort.Bool

  bools : (es : List TypedExpr) → All (HasSort typed d scope sort.Bool) es
      → AreSorted typed d.type_params scope (map bool_at es) es
  bools [] h = none_sorted
  bools (e ∷ es) h =
      let first = head_of (HasSort typed d scope sort.Bool) e es h in
      more_sorted first.0 first.1 (bools es (tail_of (HasSort typed d scope sort.Bool) e es h))

  abbrev own_sort : TypedExpr → GenericSort
  own_sort e = e.of

  exprs_sorted : (es : List TypedExpr) → All (IsSorted typed d.type_params scope) es
      → AreSorted typed d.type_params scope (map own_sort es) es
  exprs_sorted [] h = none_sorted
  exprs_sorted (e ∷ es) h =
      more_sorted (head_of (IsSorted typed d.type_params scope) e es h) refl
      (exprs_sorted es (tail_of (IsSorted typed d.type_params scope) e es h))

  measure_sorted : (xs : List Expr) (ss : List GenericSort) → map (Sorted set.types fs sc) xs ≡ map some ss
      → is_sorted_measure set.types fs xs sc ≡ true
  measure_sorted [] ss are = refl
  measure_sorted (x ∷ xs) [] are = let no : Sorted set.types fs sc x ∷ map (Sorted set.types fs sc) xs ≡ [] = are in cc
  measure_sorted (x ∷ xs) (s ∷ ss) are =
      and_from (is_some (Sorted set.types fs sc x)) (is_sorted_measure set.types fs xs sc)
      (ap is_some (first_same are)) (measure_sorted xs ss (rest_same are))

  measure_in : (xs : List Expr) → measure_sites set.types fs xs sc ≡ joined (map In xs)
  measure_in [] = refl
  measure_in (x ∷ xs) = ap (λ l. In x ++ l) (measure_in xs)

  -- ---- several conditions as one

  -- a condition is Boolean; this changes nothing
  abbrev IsBool : Expr → Unit {0} → Unit {0} → Type 0
  IsBool x s t = Sorted set.types fs sc x ≡ Some of_prog.Bool

  each_bool : (xs : List Expr) (es : List TypedExpr) → map (Sorted set.types fs sc) xs ≡ map some (map bool_at es)
      → Chain IsBool xs tt tt
  each_bool [] es are = none_leads
  each_bool (x ∷ xs) [] are = let no : Sorted set.types fs sc x ∷ map (Sorted set.types fs sc) xs ≡ [] = are in cc
  each_bool (x ∷ xs) (e ∷ es) are =
      one_leads (first_same are ∙ ap Some (sort_at_bool set.roots own.args)) (each_bool xs es (rest_same are))

  both_bool : (a b : Expr) (s t u : Unit {0}) → IsBool a s t → IsBool b t u → IsBool (prog.Binary AndAlso a b None) s u
  both_bool a b s t u h k =
      sort_of_binary set.types fs sc AndAlso a b None ∙ ap (λ z. binary_sort AndAlso z (Sorted set.types fs sc b)) h
      ∙ ap (λ z. binary_sort AndAlso (Some of_prog.Bool) z) k

  -- offsets so far, with the checks so far
  abbrev Listed : Type 0
  Listed = List Offset × List CheckAt

  -- the sites of a condition are listed, at offsets that follow
  record ListsOne (x : Expr) (s t : Listed) : Type 0 where
    at : List Offset
    follow : t.0 ≡ s.0 ++ at
    lists : Lists set fs own (In x) at s.1 t.1

  both_list : (a b : Expr) (s t u : Listed) → ListsOne a s t → ListsOne b t u
      → ListsOne (prog.Binary AndAlso a b None) s u
  both_list a b s t u h k = record {
    at = h.at ++ k.at;
    follow = k.follow ∙ ap (λ (l : List Offset). l ++ k.at) h.follow ∙ append_assoc s.0 h.at k.at;
    lists = lists_same set fs own (In a ++ In b ++ plain None ∷ []) (In (prog.Binary AndAlso a b None))
        (h.at ++ k.at ++ []) (h.at ++ k.at) s.1 u.1
        (sites_binary set.types fs sc AndAlso a b None) (sym (append-nil (h.at ++ k.at)))
        (lists_append set fs own (In a ++ In b) (plain None ∷ []) (h.at ++ k.at) [] s.1 u.1 u.1
        (lists_append set fs own (In a) (In b) h.at k.at s.1 t.1 u.1 h.lists k.lists) (plain_site set fs own u.1));
  }

  each_lists : {es : List TypedExpr} {xs : List Expr} {old new : List CheckAt} {ss : List GenericSort}
      → TranslateAll typed set own es xs old new
      → AreSorted typed d.type_params scope ss es → Within ms own.args (joined (map mentions es))
      → Chain ListsOne xs ([], old) (joined (map site_offsets es), new)
  each_lists no_exprs h w = none_leads
  each_lists (one_more {es = es} {e = e} {xs = xs} {x = x} before t) h w =
      let r = split typed d.type_params scope es e h in
      let parts = in_parts ms own.args mentions es e w in
      chain_push ListsOne (each_lists before r.earlier parts.0) (record {
        at = site_offsets e;
        follow = ap joined (map_push site_offsets es e) ∙ joined_push (map site_offsets es) (site_offsets e);
        lists = lists_expr typed set ms fs known own grouped d.type_params own_types t r.last parts.1;
      })

  one_lists : (o : Option Expr) (at : List Offset) (old new : List CheckAt) → LeadsIf ListsOne o ([], old) (at, new)
      → Lists set fs own (pre_sites set.types fs o sc) at old new
  one_lists None at old new h =
      lists_same set fs own [] [] [] at old new refl (sym (ap (λ (l : Listed). l.0) h))
      (subst (λ (l : List CheckAt). Lists set fs own [] [] old l) (ap (λ (l : Listed). l.1) h)
      (lists_none set fs own old))
  one_lists (Some x) at old new h = lists_same set fs own (In x) (In x) h.at at old new refl h.follow h.lists

  pre_lists : {es : List TypedExpr} {xs : List Expr} {old new : List CheckAt} {ss : List GenericSort}
      → TranslateAll typed set own es xs old new
      → AreSorted typed d.type_params scope ss es → Within ms own.args (joined (map mentions es))
      → Lists set fs own (pre_sites set.types fs (as_one xs) sc) (joined (map site_offsets es)) old new
  pre_lists {es} {xs} {old} {new} t h w =
      one_lists (as_one xs) (joined (map site_offsets es)) old new (as_one_leads ListsOne both_list (each_lists t h w))

  -- ---- the function

  abbrev IsIn : Function → Type 0
  IsIn f = f.params ≡ map (param_at set.roots own.args) d.params

  scope_is : (f : Function) → IsIn f → sorts_of_params f.params ≡ sc
  scope_is f h =
      ap sorts_of_params h ∙ sym (map_map sort_of_prog_param (param_at set.roots own.args) d.params)
      ∙ map_map G sort_of_param d.params

  record Parts : Type 0 where
    pre : Within ms own.args (joined (map mentions d.pre))
    measure : Within ms own.args (joined (map mentions d.measure))
    body : Within ms own.args (mentions d.body)
    post : Within ms own.args (post_mentions d.post)

  parts_of : Within ms own.args (text_mentions d) → Parts
  parts_of w =
      let a = joined (map mentions d.pre) in
      let b = joined (map mentions d.measure) in
      let abc = in_left ms own.args (a ++ b ++ mentions d.body) (post_mentions d.post) w in
      let ab = in_left ms own.args (a ++ b) (mentions d.body) abc in
      record {
        pre = in_left ms own.args a b ab;
        measure = in_right ms own.args a b ab;
        body = in_right ms own.args (a ++ b) (mentions d.body) abc;
        post = in_right ms own.args (a ++ b ++ mentions d.body) (post_mentions d.post) w;
      }

  one_right : (o : Option Expr) → LeadsIf IsBool o tt tt → is_sorted_pre set.types fs o sc ≡ true
  one_right None h = refl
  one_right (Some x) h = ap (has_the_sort set.types fs of_prog.Bool) h

  pre_right : (xs : List Expr) (es : List TypedExpr) → map (Sorted set.types fs sc) xs ≡ map some (map bool_at es)
      → is_sorted_pre set.types fs (as_one xs) sc ≡ true
  pre_right xs es are = one_right (as_one xs) (as_one_leads IsBool both_bool (each_bool xs es are))

  right : (x : Expr) (l : List Sort) (s t : Sort) → sort_of set.types fs x l ≡ Some t → t ≡ s
      → is_of_sort set.types fs s l x ≡ true
  right x l s t h e = ap (has_the_sort set.types fs s) h ∙ ap (λ (z : Sort). same_sort z s) e ∙ its_sort s

  abbrev with_result : List GenericSort
  with_result = scope ++ d.result ∷ []

  result_in : (f : Function) → f.result ≡ G d.result → sc ++ f.result ∷ [] ≡ map G with_result
  result_in f h = ap (λ (z : Sort). sc ++ z ∷ []) h ∙ sym (map_push G scope d.result)

  claim_right : (x : Expr) (f : Function) (e : TypedExpr) {old new : List CheckAt} → f.result ≡ G d.result
      → Translates typed set own e x old new
      → HasSort typed d with_result sort.Bool e → Within ms own.args (mentions e)
      → is_of_sort set.types fs of_prog.Bool (sc ++ f.result ∷ []) x ≡ true
  claim_right x f e r t h w =
      ap (λ l. is_of_sort set.types fs of_prog.Bool l x) (result_in f r)
      ∙ right x (map G with_result) of_prog.Bool (G e.of)
      (sorted_expr typed set ms fs known own d.type_params own_types t h.0 w)
      (ap G h.1 ∙ sort_at_bool set.roots own.args)

  post_right : {q : Option TypedPost} {p : Option (CheckId × Expr)} {source : ℕ} {old new : List CheckAt} (f : Function)
      → f.result ≡ G d.result
      → TranslatesPost typed set own source q p old new → IsPost typed d q → Within ms own.args (post_mentions q)
      → is_sorted_post set.types fs p (sc ++ f.result ∷ []) ≡ true
  post_right f r no_post h w = refl
  post_right f r (one_post {post = post} {claim = claim} t) h w = claim_right claim f post.claim r t h w

  post_lists : {q : Option TypedPost} {p : Option (CheckId × Expr)} {source : ℕ} {old new : List CheckAt} (f : Function)
      → f.result ≡ G d.result
      → TranslatesPost typed set own source q p old new → IsPost typed d q → Within ms own.args (post_mentions q)
      → Lists set fs own (post_sites set.types fs p f.result sc) (post_offsets source q) old new
  post_lists {old = old} f r no_post h w = lists_none set fs own old
  post_lists {source = source} {old = old} f r (one_post {post = post} {claim = claim} {new = mid} t) h w =
      let site = postcondition (record { 0 = length mid }) in
      let c = post_check typed set own source post.at in
      lists_same set fs own (sites set.types fs claim (map G with_result) ++ site ∷ []) _
      (site_offsets post.claim ++ (source, post.at) ∷ []) _ old (mid ++ c ∷ [])
      (ap (λ l. sites set.types fs claim l ++ site ∷ []) (result_in f r)) refl
      (lists_append set fs own (sites set.types fs claim (map G with_result)) (site ∷ []) (site_offsets post.claim)
      ((source, post.at) ∷ [])
      old mid (mid ++ c ∷ [])
      (lists_expr typed set ms fs known own grouped d.type_params own_types t h.0 w)
      (one_if set fs own site check.Postcondition true c mid refl refl refl refl refl tt))

  -- the function is sorted
  pub def_sorted : {texts : List (List ℕ)} {i : Instance} {f : Function} {old new : List CheckAt}
      → TranslatesDef typed set own texts i d f old new → IsDef typed d
      → Within ms own.args (text_mentions d) → is_sorted set.types fs f ≡ true
  def_sorted {f = f} t h w =
      let parts = parts_of w in
      let pre = sorted_all typed set ms fs known own d.type_params own_types t.pre.each (bools d.pre h.pre) parts.pre in
      let measure = sorted_all typed set ms fs known own d.type_params own_types t.measure
      (exprs_sorted d.measure h.measure) parts.measure in
      let body = sorted_expr typed set ms fs known own d.type_params own_types t.body h.body.0 parts.body in
      ap (λ (l : List Sort). is_sorted_pre set.types fs f.pre l &&
      (is_sorted_measure set.types fs f.measure l &&
      (is_of_sort set.types fs f.result l f.body && is_sorted_post set.types fs f.post (l ++ f.result ∷ []))))
      (scope_is f t.params)
      ∙ and_from _ _ (ap (λ (o : Option Expr). is_sorted_pre set.types fs o sc) t.pre.one
      ∙ pre_right t.pre.parts d.pre pre)
      (and_from _ _ (measure_sorted f.measure (map own_sort d.measure) measure)
      (and_from _ _ (right f.body sc f.result (G d.body.of) body (ap G h.body.1 ∙ sym t.result))
      (post_right f t.result t.post h.post parts.post)))

  -- its sites are listed in order
  pub def_lists : {texts : List (List ℕ)} {i : Instance} {f : Function} {old new : List CheckAt}
      → TranslatesDef typed set own texts i d f old new → IsDef typed d
      → Within ms own.args (text_mentions d) → Lists set fs own (function_sites set.types fs f) (def_offsets d) old new
  def_lists {f = f} {old = old} {new = new} t h w =
      let parts = parts_of w in
      let pre = pre_lists t.pre.each (bools d.pre h.pre) parts.pre in
      let measure = lists_all typed set ms fs known own grouped d.type_params own_types t.measure
      (exprs_sorted d.measure h.measure) parts.measure in
      let body = lists_expr typed set ms fs known own grouped d.type_params own_types t.body h.body.0 parts.body in
      let post = post_lists f t.result t.post h.post parts.post in
      let a = pre_sites set.types fs (as_one t.pre.parts) sc in
      let b = joined (map In f.measure) in
      let o = joined (map site_offsets d.pre) in
      let p = joined (map site_offsets d.measure) in
      lists_same set fs own (a ++ b ++ In f.body ++ post_sites set.types fs f.post f.result sc) _ (def_offsets d) _
      old new
      (ap (λ (l : List Sort). pre_sites set.types fs f.pre l ++ measure_sites set.types fs f.measure l ++ sites
      set.types fs f.body l ++ post_sites set.types fs f.post f.result l) (scope_is f t.params)
      ∙ ap (λ (z : Option Expr). pre_sites set.types fs z sc ++ measure_sites set.types fs f.measure sc ++ In f.body ++
      post_sites set.types fs f.post f.result sc) t.pre.one
      ∙ ap (λ l. a ++ l ++ In f.body ++ post_sites set.types fs f.post f.result sc) (measure_in f.measure)) refl
      (lists_append set fs own (a ++ b ++ In f.body) (post_sites set.types fs f.post f.result sc)
      (o ++ p ++ site_offsets d.body)
      (post_offsets d.source d.post) old t.after_body new
      (lists_append set fs own (a ++ b) (In f.body) (o ++ p) (site_offsets d.body) old t.after_measure t.after_body
      (lists_append set fs own a b o p old t.after_pre t.after_measure pre measure) body) post)
