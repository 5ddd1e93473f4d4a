-- What a refusal returns: its number, then its values.
use Rattle.std.specs.Prelude.{◌≡◌, ℕ, List, [], ◌∷◌, Ok, Err, Result, Option, Some, None, MatchResult}
use Rattle.access.specs.declared.refusals.Refusal.{Refusal}
use Rattle.access.specs.declared.refusals.Refusal.TheVariants.{NotListed, WrongKind, NotGiven, Circular, Full, NoRoom, Unreadable, NotAllowed}

abbrev pub Code : Type 0
Code = List ℕ

abbrev pub code : Refusal → Code
code NotListed = 1 ∷ []
code WrongKind = 2 ∷ []
code NotGiven = 3 ∷ []
code Circular = 4 ∷ []
code Full = 5 ∷ []
code NoRoom = 6 ∷ []
code (Unreadable part place) = 7 ∷ part ∷ place ∷ []
code (NotAllowed step) = 8 ∷ step ∷ []

-- what a call returns, with a refusal as its code
abbrev pub coded : {X : Type 0} → Result X Refusal → Result X Code
coded (Ok x) = Ok x
coded (Err refusal) = Err (code refusal)

-- what a number names, or the refusal of one that is not listed
abbrev pub Names : {X : Type 0} → Option X → Result X Refusal → Type 0
Names named r = MatchResult r (λ x. named ≡ Some x) (λ refusal. (named ≡ None) × (code refusal ≡ code NotListed))
