-- What the getters of `clap` give, by the rows of its matches.
use Rattle.std.proofs.Common.{◌≡◌, ◌∙◌, List, [], ℕ, Option, Some, None, option_map, unwrap_or, map, ap, codes}
use Rattle.std.specs.Borrow.{Bor}
use Rattle.clap.specs.Words.{Text, all_of, first_of, first_value, found_of, matched_of, raw_values, rows_of}
use Rattle.clap.specs.declared.parser.matches.Found.{Found}
use Rattle.clap.proofs.WalkLemmas.{first_value-rows, raw_values-rows}
use Rattle.pp_words.specs.Task.{Given}

-- the value of an option is the first of its rows
pub value_of_rows : (found : Found) (id : Text) (o : Option (Bor Text))
    → option_map (λ text. text.now) o ≡ first_value found id
    → option_map (λ text. text.now) o ≡ first_of id (rows_of found)
value_of_rows found id o e = e ∙ first_value-rows found id

-- the FILEs are all values of their rows; without a use there are none
pub files_of_rows : (found : Found) (id : Text) (o : Option (Bor (List (Bor Text))))
    → option_map (λ files. map (λ file. file.now) files.now) o ≡ option_map raw_values (matched_of found id)
    → unwrap_or (option_map (λ files. map (λ file. file.now) files.now) o) [] ≡ unwrap_or (all_of id (rows_of found)) []
files_of_rows found id o e = ap (λ (files : Option (List Text)). unwrap_or files []) (e ∙ raw_values-rows found id)

pub same_given : {m m' r r' d d' l l' g g' o o' n n' f f' s s' : Option (List ℕ)} {fs fs' : List (List ℕ)}
    → m ≡ m' → r ≡ r' → d ≡ d' → l ≡ l' → g ≡ g' → o ≡ o' → n ≡ n' → f ≡ f' → s ≡ s' → fs ≡ fs'
    → ◌≡◌ {A = Given} (record {
      mode = m;
      rounds = r;
      depth = d;
      lemmas = l;
      gates = g;
      order = o;
      function = n;
      fuel = f;
      seed = s;
      files = fs;
    })
    (record {
      mode = m';
      rounds = r';
      depth = d';
      lemmas = l';
      gates = g';
      order = o';
      function = n';
      fuel = f';
      seed = s';
      files = fs';
    })
same_given em er ed el eg eo en ef es efs = cc
