-- The format of log entries is a code.
use Rattle.std.proofs.Common.{◌≡◌, ℕ, Bool, true, false, Some, refl, ap, sym}
use Rattle.std.proofs.lemmas.Bool.{eqb-true}
use Rattle.cat_codes.specs.declared.fault.FieldFault.TheVariants.{Range}
use Rattle.cat_codes.specs.Code.{IsCode}
use Rattle.cat_codes.specs.NumberLaws.{u8_is, u32_is, u64_is}
use Rattle.cat_codes.specs.FieldLaws.{pair_is, depends_is, only_is, variant_is}
use Rattle.cat_names.specs.KeyLaws.{hash_is}
use Rattle.cat_model.specs.declared.command.Command.{Command}
use Rattle.cat_model.specs.declared.log_entry.Action.{Action}
use Rattle.cat_model.specs.declared.log_entry.Action.TheVariants as actions
use Rattle.cat_model.specs.declared.sweep.Sweep.{Sweep}
use Rattle.cat_model.specs.FormatLaws.{moment_is}
use Rattle.cat_model.specs.State.{Digest}
use Rattle.cat_frames.specs.Telling.{told_by_is, always_is}
use Rattle.cat_frames.specs.CommandLaws.{command_is, numbered}
use Rattle.cat_frames.specs.SweepLaws.{sweep_is}
use Rattle.cat_frames.specs.Entries.{action_number, action_code, as_call, as_sweep, is_sweep, kind_code, is_kind, is_draft_of, draft_code, leaves_head, head_code, telling, told, log_entry_code}

call_back : (a : Action) (command : Command) → as_call a ≡ Some command → actions.Call command ≡ a
call_back (actions.Call c) command e = let same : c ≡ command = cc in ap (λ (x : Command). actions.Call x) (sym same)
call_back (actions.Sweep s) command e = absurd cc

sweep_back : (a : Action) (sweep : Sweep) → as_sweep a ≡ Some sweep → actions.Sweep sweep ≡ a
sweep_back (actions.Call c) sweep e = absurd cc
sweep_back (actions.Sweep s) sweep e = let same : s ≡ sweep = cc in ap (λ (x : Sweep). actions.Sweep x) (sym same)

kind_code_is : (digest : Digest) (draft kind : ℕ) (sweeps : Bool) → IsCode (kind_code digest draft kind sweeps)
kind_code_is digest draft kind true = variant_is _ _ _ (λ _. refl) sweep_back sweep_is
kind_code_is digest draft kind false = variant_is _ _ _ (λ _. refl) call_back (command_is digest draft kind)

pub action_is : (digest : Digest) (draft kind : ℕ) → IsCode (action_code digest draft kind)
action_is digest draft kind = kind_code_is digest draft kind (is_sweep kind)

by_kind : (digest : Digest) (draft kind : ℕ) (sweeps : Bool) (a : Action) → is_sweep kind ≡ sweeps → (kind_code digest draft kind sweeps).Fits a → action_number a ≡ kind
by_kind digest draft kind true (actions.Call c) h fits = let no : _ = fits.1 in absurd cc
by_kind digest draft kind true (actions.Sweep s) h fits = sym (eqb-true _ _ h)
by_kind digest draft kind false (actions.Call c) h fits = numbered digest draft kind c fits.0
by_kind digest draft kind false (actions.Sweep s) h fits = let no : _ = fits.1 in absurd cc

-- what is of the kind of a number has that number
pub kind_is : (digest : Digest) (draft kind : ℕ) (a : Action) → (action_code digest draft kind).Fits a → action_number a ≡ kind
kind_is digest draft kind a fits = by_kind digest draft kind _ a refl fits

pub draft_is : (kind : ℕ) → IsCode (draft_code kind)
draft_is kind = only_is Range (is_draft_of kind) _ u64_is

pub head_is : (leaves : Bool) → IsCode (head_code leaves)
head_is true = variant_is _ _ _ (λ _. refl) (λ y x e. sym e) hash_is
head_is false = always_is _

pub log_entry_is : (digest : Digest) → IsCode (log_entry_code digest)
unfolding log_entry_code
log_entry_is digest = told_by_is telling told _
    (λ x fits. ap (λ (kind : ℕ). (kind, x.1)) (kind_is digest x.1.1.0 x.0 x.1.1.1.1.0 fits.1.1.1.1.0))
    (depends_is _ _ (only_is Range is_kind _ u8_is) (λ kind. pair_is _ _ u32_is
    (depends_is _ _ (draft_is kind) (λ draft. pair_is _ _ moment_is (pair_is _ _ (action_is digest draft kind) (head_is (leaves_head kind)))))))
