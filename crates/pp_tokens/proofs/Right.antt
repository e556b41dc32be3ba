-- What stands at the front is right there, and is some of the characters.
use Rattle.std.proofs.Common.{ℕ, ◌≡◌, ◌≤◌, List, take, drop, length, refl, Bool, true, false, cond, Option}
use Rattle.pp_tokens.specs.declared.token.TokenKind.{TokenKind}
use Rattle.pp_tokens.specs.declared.front.Front.{Front}
use Rattle.pp_tokens.specs.declared.front.Front.TheVariants.{Takes, Bad}
use Rattle.pp_tokens.specs.Layout.{IsPart}

pub record Takes_part (kind : Option TokenKind) (n : ℕ) (cs : List ℕ) : Type 0 where
  pub right : IsPart kind (take n cs) (drop n cs)
  pub some : 1 ≤ n
  pub within : n ≤ length cs

abbrev pub IsRight : Front → List ℕ → Type 0
IsRight (Takes kind n) cs = Takes_part kind n cs
IsRight (Bad f) cs = Unit {0}

pub by_test : (b : Bool) (x y : Front) (cs : List ℕ) → (b ≡ true → IsRight x cs) → (b ≡ false → IsRight y cs)
    → IsRight (cond b x y) cs
by_test true x y cs pass fail = pass refl
by_test false x y cs pass fail = fail refl
