-- The kinds and offsets of the checks that the sites of a typed function may carry.
use Rattle.std.proofs.Common.{◌≡◌, ℕ, List, [], ◌∷◌, ◌++◌, map, All, Contains, Option, Some, None, sym, ap, ◌∙◌, subst}
use Rattle.std.proofs.Common.{append_assoc, ⊎_elim}
use Rattle.std.proofs.lemmas.List.{append-nil, map-append}
use Rattle.std.proofs.lemmas.List.Elements.{All-contains, All-head, All-tail, Contains-append_cases}
use Rattle.pp_list.specs.Joined.{joined}
use Rattle.pp_check_places.proofs.Apart.{all_differ, at_some, differ_from, none_at, two_differ}
use Rattle.pp_check_places.proofs.Chosen.{Differ}
use Rattle.pp_check_places.proofs.Marked.{IsMarked, KindAt, all_at, kind_of, none_marked, offset_of, two_marked}
use Rattle.pp_check_places.proofs.Marks.{expr_marked}
use Rattle.pp_check_places.proofs.SiteKinds.{Kinds, kinds}
use Rattle.pp_instances.proofs.Kept.{nothing_in}
use Rattle.pp_instances.specs.declared.member.Member.{Member}
use Rattle.pp_order.proofs.Made.{in_more}
use Rattle.pp_prog.specs.declared.check.CheckKind.TheVariants as check
use Rattle.pp_prog.specs.declared.expr.Expr.{Expr}
use Rattle.pp_translation.specs.Exprs.{expr_at}
use Rattle.pp_translation.specs.Places.{def_offsets, post_offsets, site_offsets}
use Rattle.pp_typed.specs.Apart.{IsApart, Mark, def_marks, marks, post_marks}
use Rattle.pp_typed.specs.Stand.{DefStands, ExprStands, Offset, PostStands, Stands, offsets}
use Rattle.pp_typed.specs.declared.expr.TypedExpr.{TypedExpr}
use Rattle.pp_typed.specs.declared.sort.GenericSort.{GenericSort}
use Rattle.pp_typed.specs.declared.typed.Typed.{Typed}
use Rattle.pp_typed.specs.declared.typed.TypedDef.{TypedDef}
use Rattle.pp_typed.specs.declared.typed.TypedPost.{TypedPost}

-- the check of a postcondition
abbrev pub post_check : ℕ → Option TypedPost → List KindAt
post_check source None = []
post_check source (Some post) = (check.Postcondition, (source, post.at)) ∷ []

-- the kinds and offsets of the checks that the sites of a function may carry
abbrev pub def_checks : TypedDef → List KindAt
def_checks d = all_at (def_marks d) ++ post_check d.source d.post

-- the offsets in the claim of a postcondition
abbrev post_inside : Option TypedPost → List Offset
post_inside None = []
post_inside (Some post) = offsets post.claim

-- ---- no two of them are the same

pub def_differ : (d : TypedDef) → IsApart d → Differ (def_checks d)
def_differ d apart =
    let marks_differ = all_differ (def_marks d) (differ_from (def_marks d) apart) in
    two_differ (all_at (def_marks d)) (post_check d.source d.post) marks_differ (one d.source d.post)
    (other (def_marks d) d.source d.post)
  where
    one : (source : ℕ) (post : Option TypedPost) → Differ (post_check source post)
    one source None = tt
    one source (Some post) = (nothing_in (check.Postcondition, (source, post.at)), tt)

    other : (ms : List Mark) (source : ℕ) (post : Option TypedPost) (p : KindAt) → Contains (all_at ms) p
        → Contains (post_check source post) p → ⊥
    other ms source None p here has = nothing_in p has
    other ms source (Some post) p here has =
        in_more (check.Postcondition, (source, post.at)) p [] has
        (λ is. none_at ms (source, post.at) (subst (Contains (all_at ms)) (sym is) here)) (nothing_in p)

-- ---- they stand in the texts

module _ (texts : List (List ℕ)) where
  abbrev AreIn : List Offset → Type 0
  AreIn all = (o : Offset) → Contains all o → Stands texts o

  two_in : (a b : List Offset) → AreIn a → AreIn b → AreIn (a ++ b)
  two_in a b one other o has = ⊎_elim (one o) (other o) (Contains-append_cases a b o has)

  expr_in : (e : TypedExpr) → ExprStands texts e → AreIn (offsets e)
  expr_in e stands o has = All-contains (Stands texts) (offsets e) o stands has

  exprs_in : (es : List TypedExpr) → All (ExprStands texts) es → AreIn (joined (map offsets es))
  exprs_in [] all = λ o has. absurd (nothing_in o has)
  exprs_in (e ∷ es) all =
      two_in (offsets e) (joined (map offsets es)) (expr_in e (All-head (ExprStands texts) e es all))
      (exprs_in es (All-tail (ExprStands texts) e es all))

  post_in : (source : ℕ) (post : Option TypedPost) → PostStands texts source post → AreIn (post_inside post)
  post_in source None stands = λ o has. absurd (nothing_in o has)
  post_in source (Some post) stands = expr_in post.claim stands.1

  own_in : (source : ℕ) (post : Option TypedPost) → PostStands texts source post → (p : KindAt)
      → Contains (post_check source post) p → Stands texts p.1
  own_in source None stands p has = absurd (nothing_in p has)
  own_in source (Some post) stands p has =
      in_more (check.Postcondition, (source, post.at)) p [] has
      (λ is. subst (λ (q : KindAt). Stands texts q.1) is stands.0) (λ none. absurd (nothing_in p none))

module _ (typed : Typed) (roots functions : List Member) (args : List GenericSort) where
  abbrev At : TypedExpr → Expr
  At = expr_at typed roots functions args

  pub exprs_marked : (es : List TypedExpr)
      → IsMarked (joined (map marks es)) (joined (map site_offsets es)) (joined (map kinds (map At es)))
      (joined (map offsets es))
  exprs_marked [] = none_marked []
  exprs_marked (e ∷ es) = two_marked (expr_marked typed roots functions args e) (exprs_marked es)

  -- the kinds of the checks of a postcondition
  abbrev pub post_kinds : Option TypedPost → Kinds
  post_kinds None = []
  post_kinds (Some post) = kinds (At post.claim) ++ check.Postcondition ∷ []

  -- what may be checked before the postcondition's own check, and that
  record IsWhole (ms : List Mark) (os all : List Offset) (ks : Kinds) (s : ℕ) (post : Option TypedPost) : Type 0 where
    pub offsets_are : map offset_of (all_at (ms ++ post_marks post) ++ post_check s post)
        ≡ os ++ post_offsets s post
    pub kinds_are : map kind_of (all_at (ms ++ post_marks post) ++ post_check s post) ≡ ks ++ post_kinds post
    pub within : (m : Mark) → Contains (ms ++ post_marks post) m → Contains (all ++ post_inside post) m.1

  with_post : (ms : List Mark) (os all : List Offset) (ks : Kinds) (source : ℕ) (post : Option TypedPost)
      → IsMarked ms os ks all → IsWhole ms os all ks source post
  with_post ms os all ks source None marked =
      let more = two_marked marked (none_marked []) in
      record {
        offsets_are = ap (map offset_of) (append-nil (all_at (ms ++ []))) ∙ more.offsets;
        kinds_are = ap (map kind_of) (append-nil (all_at (ms ++ []))) ∙ more.kinds;
        within = more.within;
      }
  with_post ms os all ks source (Some post) marked =
      let own : KindAt = (check.Postcondition, (source, post.at)) in
      let more = two_marked marked (expr_marked typed roots functions args post.claim) in
      record {
        offsets_are = map-append offset_of (all_at (ms ++ marks post.claim)) (own ∷ [])
            ∙ ap (λ l. l ++ (source, post.at) ∷ []) more.offsets
            ∙ append_assoc os (site_offsets post.claim) ((source, post.at) ∷ []);
        kinds_are = map-append kind_of (all_at (ms ++ marks post.claim)) (own ∷ [])
            ∙ ap (λ l. l ++ check.Postcondition ∷ []) more.kinds
            ∙ append_assoc ks (kinds (At post.claim)) (check.Postcondition ∷ []);
        within = more.within;
      }

  module _ (d : TypedDef) where
    abbrev pub before_post : Kinds
    before_post = joined (map kinds (map At d.pre)) ++ joined (map kinds (map At d.measure)) ++ kinds (At d.body)

    abbrev inside : List Offset
    inside = joined (map offsets d.pre) ++ joined (map offsets d.measure) ++ offsets d.body

    abbrev marks_before : List Mark
    marks_before = joined (map marks d.pre) ++ joined (map marks d.measure) ++ marks d.body

    abbrev offsets_before : List Offset
    offsets_before = joined (map site_offsets d.pre) ++ joined (map site_offsets d.measure) ++ site_offsets d.body

    def_marked : IsWhole marks_before offsets_before inside before_post d.source d.post
    def_marked =
        let conditions = two_marked (exprs_marked d.pre) (exprs_marked d.measure) in
        with_post marks_before offsets_before inside before_post d.source d.post
        (two_marked conditions (expr_marked typed roots functions args d.body))

    pub def_offsets_are : map offset_of (def_checks d) ≡ def_offsets d
    def_offsets_are = def_marked.offsets_are

    pub def_kinds_are : map kind_of (def_checks d) ≡ before_post ++ post_kinds d.post
    def_kinds_are = def_marked.kinds_are

    pub def_stands : (texts : List (List ℕ)) → DefStands texts d → (p : KindAt) → Contains (def_checks d) p
        → Stands texts p.1
    def_stands texts stands p has =
        let all = two_in texts inside (post_inside d.post)
        (two_in texts (joined (map offsets d.pre) ++ joined (map offsets d.measure)) (offsets d.body)
        (two_in texts (joined (map offsets d.pre)) (joined (map offsets d.measure)) (exprs_in texts d.pre stands.pre)
        (exprs_in texts d.measure stands.measure)) (expr_in texts d.body stands.body))
        (post_in texts d.source d.post stands.post) in
        ⊎_elim
        (λ left. (let t = at_some (def_marks d) p left in all p.1 (def_marked.within (t.0, p.1) t.1)))
        (own_in texts d.source d.post stands.post p)
        (Contains-append_cases (all_at (def_marks d)) (post_check d.source d.post) p has)
