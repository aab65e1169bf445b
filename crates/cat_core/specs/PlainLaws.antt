-- What no definition refuses for.
use Rattle.std.proofs.Common.{◌≡◌, Result, Ok, Err, Bool, true, false, refl}
use Rattle.cat_model.specs.declared.limits.Quantity.{Quantity}
use Rattle.cat_model.specs.declared.limits.Quantity.TheVariants.{Drafts}
use Rattle.cat_model.specs.declared.refusal.Refusal.{Refusal}
use Rattle.cat_model.specs.declared.refusal.Refusal.TheVariants.{BadRequest, Collision, Conflicts, ContentNotFound, Down, Encoding, OldFormat, Expired, Fault, Limit, NoMemory, NoRoute, RefExists, RefNotFound, RetriesSpent, SweepOpen, TooLarge, WrongMethod}
use Rattle.cat_model.specs.CauseLaws.{Causes}
use Rattle.cat_model.specs.Refusing.{◌>>=◌, needs}

-- a refusal with another cause than want of memory, a fault of what keeps the log, or one that it had before
abbrev pub is_other : Refusal → Bool
is_other NoMemory = false
is_other Fault = false
is_other (Down count) = false
is_other _ = true

abbrev pub IsOther : Refusal → Type 0
IsOther why = is_other why ≡ true

-- what a definition gives, if it refuses, has another cause
abbrev pub IsPlain : {A : Type 0} → Result A Refusal → Type 0
IsPlain (Ok x) = Unit {0}
IsPlain (Err why) = IsOther why

pub plain_bind : {A B : Type 0} (r : Result A Refusal) (f : A → Result B Refusal) → IsPlain r → ((x : A) → IsPlain (f x)) → IsPlain (r >>= f)
plain_bind (Ok x) f p q = q x
plain_bind (Err why) f p q = p

pub plain_needs : (b : Bool) (why : Refusal) → IsOther why → IsPlain (needs b why)
plain_needs true why p = tt
plain_needs false why p = p

-- a cause that a step gives: none of those, nor attempts that were spent, nor want of a draft number
abbrev is_other_limit : Quantity → Bool
is_other_limit Drafts = false
is_other_limit _ = true

abbrev pub is_usual : Refusal → Bool
is_usual NoMemory = false
is_usual Fault = false
is_usual (Down count) = false
is_usual (RetriesSpent pairs) = false
is_usual (Limit which number) = is_other_limit which
is_usual _ = true

abbrev pub IsUsualCause : Refusal → Type 0
IsUsualCause why = is_usual why ≡ true

-- what a definition gives, if it refuses, has such a cause
abbrev pub IsUsual : {A : Type 0} → Result A Refusal → Type 0
IsUsual r = Causes is_usual r

usual_is_other : (why : Refusal) → IsUsualCause why → IsOther why
usual_is_other (BadRequest x) p = refl
usual_is_other RefNotFound p = refl
usual_is_other RefExists p = refl
usual_is_other (ContentNotFound x) p = refl
usual_is_other (Conflicts x) p = refl
usual_is_other (Expired x y) p = refl
usual_is_other (RetriesSpent x) p = refl
usual_is_other (SweepOpen x) p = refl
usual_is_other (Limit x y) p = refl
usual_is_other (Collision x y z) p = refl
usual_is_other Fault p = absurd cc
usual_is_other (Down x) p = absurd cc
usual_is_other NoMemory p = absurd cc
usual_is_other NoRoute p = refl
usual_is_other (WrongMethod x) p = refl
usual_is_other TooLarge p = refl
usual_is_other Encoding p = refl
usual_is_other OldFormat p = refl

pub plain_of : {A : Type 0} (r : Result A Refusal) → IsUsual r → IsPlain r
plain_of (Ok x) p = tt
plain_of (Err why) p = usual_is_other why p
