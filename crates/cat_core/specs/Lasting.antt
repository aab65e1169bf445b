-- What open drafts keep.
use Rattle.std.specs.Prelude.{ℕ, ◌≤◌, List, [], ◌∷◌, Option, IfSome, is_some, Bool, IsTrue}
use Rattle.std.specs.List.{list_any}
use Rattle.sha2.specs.Sha256.{sha256}
use Rattle.cat_names.specs.declared.hash.Hash.{Hash}
use Rattle.cat_model.specs.Base.{is_among}
use Rattle.cat_model.specs.Book.{Book}
use Rattle.cat_model.specs.Drafts.{Names, OpenDraft, OpenSweep}
use Rattle.cat_model.specs.Past.{past_of}
use Rattle.cat_model.specs.State.{State, content_at}
use Rattle.cat_model.specs.Sweeps.{kept_by_names, since}

-- ---- contents

-- a state has the content of the hash
abbrev pub has_content : State → Hash → Bool
has_content state hash = is_some (content_at state.present hash)

-- one of the states has it
abbrev pub had_content : List State → Hash → Bool
had_content states hash = list_any (λ s. has_content s hash) states

-- the states of a book from a place of its log on
abbrev pub states_since : Book → ℕ → List State
states_since book place = since place book.state (past_of sha256 book)

-- ---- drafts

-- each content that a draft names, or that is visible at a commit that it names, is there if it was there at some moment since the draft's opening
pub record IsLasting (book : Book) (d : OpenDraft) : Type 0 where
  pub opened : d.opening.place ≤ book.state.place
  pub stays : (hash : Hash) → IsTrue (is_among (kept_by_names book.state.commits d.names) hash) → IsTrue (had_content (states_since book d.opening.place) hash) → IsTrue (has_content book.state hash)

-- so it is of each
abbrev pub AreLasting : Book → List OpenDraft → Type 0
AreLasting book [] = Unit {0}
AreLasting book (d ∷ drafts) = IsLasting book d × AreLasting book drafts

-- ---- the open sweep

-- names have those of others
pub record HasNames (names others : Names) : Type 0 where
  pub commits : (hash : Hash) → IsTrue (is_among others.commits hash) → IsTrue (is_among names.commits hash)
  pub contents : (hash : Hash) → IsTrue (is_among others.contents hash) → IsTrue (is_among names.contents hash)

-- they have those of each draft
abbrev pub HasAllNames : Names → List OpenDraft → Type 0
HasAllNames names [] = Unit {0}
HasAllNames names (d ∷ drafts) = HasNames names d.names × HasAllNames names drafts

-- what holds of the drafts: the open sweep knows what they name
pub record IsHolding (book : Book) (left_open : List OpenDraft) (sweep : Option OpenSweep) : Type 0 where
  pub lasting : AreLasting book left_open
  pub told : IfSome sweep (λ o. HasAllNames o.names left_open)
