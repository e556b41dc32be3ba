-- What is left to look at, once some names are declared.
use Rattle.std.proofs.Common.{◌≡◌, ◌∙◌, ℕ, ◌+◌, ◌<◌, Bool, true, false, not, List, [], ◌∷◌, ◌++◌, Ok, length, drop}
use Rattle.std.proofs.Common.{drop-cons, get_or, refl, sym, ap, add-one, append_assoc, length-append, if◌then◌else◌}
use Rattle.pp_declared.specs.Declare.{classes_new_after, new_class_names, defs_new_after, new_def_names}
use Rattle.pp_declared.specs.Declares.{class_names, def_names}
use Rattle.pp_declared.specs.Listed.{ClassIn, DefIn}
use Rattle.pp_declared.specs.Shown.{class_ins, def_ins}
use Rattle.pp_declared.specs.WellFormed.{is_taken, with_new}
use Rattle.pp_declared.specs.declared.listed.ClassAt.{ClassAt}
use Rattle.pp_declared.specs.declared.listed.DefAt.{DefAt}
use Rattle.pp_fault.specs.Part.{and_then, fault}
use Rattle.pp_fault.specs.declared.Rule.TheVariants.{Duplicate}
use Rattle.pp_names.specs.Places.{Word}

-- these names are declared, of the first classes, and the rest are left
pub record ClassesLeft (all rest : List ClassIn) (table : List Word) (i : ℕ) : Type 0 where
  pub left : new_class_names all ≡ and_then (classes_new_after table rest) (λ done. Ok (table ++ class_names rest))
  pub count : length table ≡ i

pub record DefsLeft (all rest : List DefIn) (table : List Word) (i : ℕ) : Type 0 where
  pub left : new_def_names all ≡ and_then (defs_new_after table rest) (λ done. Ok (table ++ def_names rest))
  pub count : length table ≡ i

by_taken : (taken new : Bool) → new ≡ true → new ≡ not taken → taken ≡ false
by_taken true new came is = cc
by_taken false new came is = refl

pub class_turn : (all : List ClassIn) (xs : List ClassAt) (i : ℕ) (d : ClassAt) (table after : List Word)
    (new : Bool) → i < length xs
    → ClassesLeft all (class_ins (drop i xs)) table i → new ≡ true
    → new ≡ not (is_taken table (get_or xs i d).class.name.now)
    → after ≡ with_new table (get_or xs i d).class.name.now
    → ClassesLeft all (class_ins (drop (i + 1) xs)) after (i + 1)
class_turn all xs i d table after new lt before came is adds =
    let w = (get_or xs i d).class.name.now in
    let free : is_taken table w ≡ false = by_taken (is_taken table w) new came is in
    let more : after ≡ table ++ w ∷ [] = adds ∙ ap (λ (b : Bool). if b then table else table ++ w ∷ []) free in
    let split : drop i xs ≡ get_or xs i d ∷ drop (i + 1) xs = drop-cons xs i d lt
    ∙ ap (λ k. get_or xs i d ∷ drop k xs) (sym (add-one i)) in
    let rest = class_ins (drop (i + 1) xs) in
    record {
      left = before.left ∙ ap (λ l. and_then (classes_new_after table (class_ins l)) (λ done. Ok
          (table ++ class_names (class_ins l)))) split
          ∙ ap (λ (b : Bool). and_then (if b
          then fault Duplicate w (get_or xs i d).source (get_or xs i d).class.at
          else classes_new_after (table ++ w ∷ []) rest)
          (λ done. Ok (table ++ w ∷ class_names rest))) free
          ∙ ap (λ l. and_then (classes_new_after (table ++ w ∷ []) rest) (λ done. Ok l)) (sym (append_assoc table
          (w ∷ []) (class_names rest)))
          ∙ ap (λ l. and_then (classes_new_after l rest) (λ done. Ok (l ++ class_names rest))) (sym more);
      count = ap length more ∙ length-append table (w ∷ []) ∙ ap (λ n. n + 1) before.count;
    }

pub def_turn : (all : List DefIn) (xs : List DefAt) (i : ℕ) (d : DefAt) (table after : List Word) (new : Bool)
    → i < length xs
    → DefsLeft all (def_ins (drop i xs)) table i → new ≡ true → new ≡ not (is_taken table (get_or xs i d).def.name.now)
    → after ≡ with_new table (get_or xs i d).def.name.now → DefsLeft all (def_ins (drop (i + 1) xs)) after (i + 1)
def_turn all xs i d table after new lt before came is adds =
    let w = (get_or xs i d).def.name.now in
    let free : is_taken table w ≡ false = by_taken (is_taken table w) new came is in
    let more : after ≡ table ++ w ∷ [] = adds ∙ ap (λ (b : Bool). if b then table else table ++ w ∷ []) free in
    let split : drop i xs ≡ get_or xs i d ∷ drop (i + 1) xs = drop-cons xs i d lt
    ∙ ap (λ k. get_or xs i d ∷ drop k xs) (sym (add-one i)) in
    let rest = def_ins (drop (i + 1) xs) in
    record {
      left = before.left ∙ ap (λ l. and_then (defs_new_after table (def_ins l)) (λ done. Ok (table ++ def_names
          (def_ins l)))) split
          ∙ ap (λ (b : Bool). and_then (if b
          then fault Duplicate w (get_or xs i d).source (get_or xs i d).def.at
          else defs_new_after (table ++ w ∷ []) rest)
          (λ done. Ok (table ++ w ∷ def_names rest))) free
          ∙ ap (λ l. and_then (defs_new_after (table ++ w ∷ []) rest) (λ done. Ok l)) (sym (append_assoc table
          (w ∷ []) (def_names rest)))
          ∙ ap (λ l. and_then (defs_new_after l rest) (λ done. Ok (l ++ def_names rest))) (sym more);
      count = ap length more ∙ length-append table (w ∷ []) ∙ ap (λ n. n + 1) before.count;
    }
