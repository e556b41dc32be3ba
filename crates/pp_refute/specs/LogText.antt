-- The text of a log. (own: one line for each lemma, as in the usual formats of resolution logs)
use Rattle.std.specs.Prelude.{ℕ, ◌+◌, ◌<◌, ◌≡◌, ◌≢◌, List, [], ◌∷◌, ◌++◌, All, length, codes, if◌then◌else◌}
use Rattle.std.specs.List.{flat_map}
use Rattle.std.specs.Fmt.{decimal}
use Rattle.pp_clause.specs.Literal.{Literal}
use Rattle.pp_clause.specs.Log.{IsLemma}
use Rattle.pp_clause.specs.declared.log.Lemma.{Lemma}

-- a literal: its variable as a decimal number, with '-' before that of a negation, and a blank
abbrev pub text_of_lit : Literal → List ℕ
text_of_lit l = (if l.positive then [] else codes "-") ++ decimal l.var ++ codes " "

-- a number of a chain: a blank, and the number in decimal
abbrev pub text_of_number : ℕ → List ℕ
text_of_number n = codes " " ++ decimal n

-- a lemma: the literals in ascending order of variable, '<-', the numbers of the chain, and a newline
abbrev pub text_of_lemma : Lemma → List ℕ
text_of_lemma m = flat_map text_of_lit m.clause ++ codes "<-" ++ flat_map text_of_number m.chain ++ 10 ∷ []

-- a log: its lemmas, a line each
abbrev pub text_of_log : List Lemma → List ℕ
text_of_log log = flat_map text_of_lemma log

-- the bytes are the text of some log
pub record IsLogText (bytes : List ℕ) : Type 0 where
  pub log : List Lemma
  pub lemmas : All IsLemma log
  pub text : text_of_log log ≡ bytes

-- line n, from 1, is the first that is wrong: the lines before it are the texts of lemmas, and what follows
-- them isn't empty and doesn't begin with the text of a lemma
pub record IsFirstWrongLine (bytes : List ℕ) (n : ℕ) : Type 0 where
  pub before : List Lemma
  pub rest : List ℕ
  pub lemmas : All IsLemma before
  pub number : n ≡ length before + 1
  pub parts : bytes ≡ text_of_log before ++ rest
  pub some : 0 < length rest
  pub wrong : (m : Lemma) (after : List ℕ) → IsLemma m → rest ≢ text_of_lemma m ++ after
