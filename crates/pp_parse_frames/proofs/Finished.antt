-- Lists of parts, the last first, that are finished.
use Rattle.std.proofs.Common.{◌≡◌, List, [], ◌∷◌, ◌++◌, map, append-nil, refl, ap, sym, ◌∙◌, option_map, subst, Option}
use Rattle.std.proofs.Common.{Some, None}
use Rattle.pp_tree.specs.declared.expr.Case.{Case}
use Rattle.pp_tree.specs.declared.expr.ExprKind.TheViews.{out-Case, roll-out-Case}
use Rattle.pp_tree.specs.Plain.{TypeTree, no_types, PatternTree, no_patterns, Tree, no_trees, CaseTrees}
use Rattle.pp_tree.specs.Plain.{no_cases}
use Rattle.pp_tree.specs.Shown.{type_trees, pattern_trees, trees, case_trees, case_of, case_before, pattern_of, tree_of}
use Rattle.pp_tree_build.proofs.Folded.{case_is}
use Rattle.pp_grammar.specs.Frames.{CaseText}
use Rattle.pp_grammar.specs.Joining.{onto, types_onto, trees_onto, patterns_onto, cases_onto}
use Rattle.pp_parse_state.specs.Values.{stacked, case_text}

list_onto : {A B : Type 0} (f : B → A) (xs : List B) (ds us : List A)
    → onto (stacked f xs ds) us ≡ onto ds (map f xs ++ us)
list_onto f [] ds us = refl
list_onto f (x ∷ xs) ds us = list_onto f xs (f x ∷ ds) us

pub list_finished : {A B : Type 0} (f : B → A) (xs : List B) → onto (stacked f xs []) [] ≡ map f xs
list_finished f xs = list_onto f xs [] [] ∙ append-nil (map f xs)

types_stacked : {B : Type 0} (f : B → TypeTree) (xs : List B) (ds us : List TypeTree)
    → types_onto (stacked f xs ds) (type_trees us) ≡ types_onto ds (type_trees (map f xs ++ us))
types_stacked f [] ds us = refl
types_stacked f (x ∷ xs) ds us = types_stacked f xs (f x ∷ ds) us

pub types_whole : {B : Type 0} (f : B → TypeTree) (xs : List B)
    → types_onto (stacked f xs []) no_types ≡ type_trees (map f xs)
types_whole f xs = types_stacked f xs [] [] ∙ ap type_trees (append-nil (map f xs))

trees_stacked : {B : Type 0} (f : B → Tree) (xs : List B) (ds us : List Tree)
    → trees_onto (stacked f xs ds) (trees us) ≡ trees_onto ds (trees (map f xs ++ us))
trees_stacked f [] ds us = refl
trees_stacked f (x ∷ xs) ds us = trees_stacked f xs (f x ∷ ds) us

pub trees_whole : {B : Type 0} (f : B → Tree) (xs : List B) → trees_onto (stacked f xs []) no_trees ≡ trees (map f xs)
trees_whole f xs = trees_stacked f xs [] [] ∙ ap trees (append-nil (map f xs))

patterns_stacked : {B : Type 0} (f : B → PatternTree) (xs : List B) (ds us : List PatternTree)
    → patterns_onto (stacked f xs ds) (pattern_trees us) ≡ patterns_onto ds (pattern_trees (map f xs ++ us))
patterns_stacked f [] ds us = refl
patterns_stacked f (x ∷ xs) ds us = patterns_stacked f xs (f x ∷ ds) us

pub patterns_whole : {B : Type 0} (f : B → PatternTree) (xs : List B)
    → patterns_onto (stacked f xs []) no_patterns ≡ pattern_trees (map f xs)
patterns_whole f xs = patterns_stacked f xs [] [] ∙ ap pattern_trees (append-nil (map f xs))

-- ---- cases

pub case_is_text : (c : Case) (rest : CaseTrees)
    → case_of c rest ≡ case_before (case_text c).pattern (case_text c).guard (case_text c).body rest
case_is_text c rest =
    let x = out-Case c in
    let P : Case → Type 0 = λ d. case_of d rest
    ≡ case_before (pattern_of x.pattern) (option_map tree_of x.guard) (tree_of x.body) rest in
    subst P (roll-out-Case c) (ap (λ (f : CaseTrees → CaseTrees). f rest) (case_is x.pattern x.guard x.body))

abbrev text : PatternTree → Option Tree → Tree → CaseText
text p g b = record { pattern = p; guard = g; body = b }

same_text : (p q : PatternTree) (g h : Option Tree) (b c : Tree)
    → case_before p g b no_cases ≡ case_before q h c no_cases → text p g b ≡ text q h c
same_text p q None None b c e = cc
same_text p q None (Some h) b c e = cc
same_text p q (Some g) None b c e = cc
same_text p q (Some g) (Some h) b c e = cc

pub text_of_case : (c : Case) (p : PatternTree) (g : Option Tree) (b : Tree) → case_of c ≡ case_before p g b
    → case_text c ≡ text p g b
text_of_case c p g b e =
    same_text (case_text c).pattern p (case_text c).guard g (case_text c).body b
    (sym (case_is_text c no_cases) ∙ ap (λ (f : CaseTrees → CaseTrees). f no_cases) e)

cases_stacked : {B : Type 0} (f : B → Case) (xs : List B) (ds : List CaseText) (us : List (CaseTrees → CaseTrees))
    → cases_onto (stacked (λ x. case_text (f x)) xs ds) (case_trees us)
    ≡ cases_onto ds (case_trees (map (λ x. case_of (f x)) xs ++ us))
cases_stacked f [] ds us = refl
cases_stacked f (x ∷ xs) ds us =
    cases_stacked f xs (case_text (f x) ∷ ds) us
    ∙ ap (cases_onto ds) (sym (case_is_text (f x) (case_trees (map (λ y. case_of (f y)) xs ++ us))))

pub cases_finished : {B : Type 0} (f : B → Case) (xs : List B)
    → cases_onto (stacked (λ x. case_text (f x)) xs []) no_cases ≡ case_trees (map (λ x. case_of (f x)) xs)
cases_finished f xs = cases_stacked f xs [] [] ∙ ap case_trees (append-nil (map (λ x. case_of (f x)) xs))
