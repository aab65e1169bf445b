-- The formats of calls are codes.
use Rattle.std.proofs.Common.{◌≡◌, ℕ, zero, suc, Some, refl, ap, sym}
use Rattle.cat_codes.specs.Code.{IsCode}
use Rattle.cat_codes.specs.FieldLaws.{pair_is, as_type_is, variant_is, nothing_is, option_is}
use Rattle.cat_codes.specs.ListLaws.{list_is}
use Rattle.cat_names.specs.KeyLaws.{hash_is}
use Rattle.cat_names.specs.RefNames.{ref_name_is}
use Rattle.cat_model.specs.declared.command.Create.{Create}
use Rattle.cat_model.specs.declared.command.Assign.{Assign}
use Rattle.cat_model.specs.declared.command.Delete.{Delete}
use Rattle.cat_model.specs.declared.command.CommitRequest.{CommitRequest}
use Rattle.cat_model.specs.declared.command.Merge.{Merge}
use Rattle.cat_model.specs.declared.command.Transplant.{Transplant}
use Rattle.cat_model.specs.declared.command.Command.{Command}
use Rattle.cat_model.specs.declared.command.Command.TheVariants as commands
use Rattle.cat_model.specs.FormatLaws.{meta_is}
use Rattle.cat_model.specs.State.{Digest}
use Rattle.cat_frames.specs.Telling.{told_by_is}
use Rattle.cat_frames.specs.SourceLaws.{pointer_is, reference_is, modes_is}
use Rattle.cat_frames.specs.RequestLaws.{request_is}
use Rattle.cat_frames.specs.Commands.{create_code, assign_code, delete_code, merge_code, transplant_code, command_number, as_create, as_assign, as_delete, as_request, as_merge, as_transplant, command_code}

pub create_is : IsCode create_code
unfolding create_code
create_is = told_by_is _ _ _ (λ _ _. refl) (pair_is _ _ ref_name_is (pair_is _ _ reference_is pointer_is))

pub assign_is : IsCode assign_code
unfolding assign_code
assign_is = told_by_is _ _ _ (λ _ _. refl) (pair_is _ _ ref_name_is (pair_is _ _ (option_is _ reference_is) (pair_is _ _ (option_is _ hash_is) pointer_is)))

pub delete_is : IsCode delete_code
unfolding delete_code
delete_is = as_type_is _ _ _ (λ _. refl) (λ _. refl) (pair_is _ _ ref_name_is (pair_is _ _ (option_is _ reference_is) (option_is _ hash_is)))

pub merge_is : IsCode merge_code
unfolding merge_code
merge_is = told_by_is _ _ _ (λ _ _. refl)
    (pair_is _ _ ref_name_is (pair_is _ _ (option_is _ hash_is) (pair_is _ _ ref_name_is (pair_is _ _ hash_is (pair_is _ _ meta_is modes_is)))))

pub transplant_is : IsCode transplant_code
unfolding transplant_code
transplant_is = told_by_is _ _ _ (λ _ _. refl)
    (pair_is _ _ ref_name_is (pair_is _ _ (option_is _ hash_is) (pair_is _ _ ref_name_is (pair_is _ _ (list_is _ hash_is) modes_is))))

create_back : (command : Command) (c : Create) → as_create command ≡ Some c → commands.Create c ≡ command
create_back (commands.Create x) c e = let same : x ≡ c = cc in ap (λ (y : Create). commands.Create y) (sym same)
create_back (commands.Assign x) c e = absurd cc
create_back (commands.Delete x) c e = absurd cc
create_back (commands.Commit x) c e = absurd cc
create_back (commands.Merge x) c e = absurd cc
create_back (commands.Transplant x) c e = absurd cc

assign_back : (command : Command) (c : Assign) → as_assign command ≡ Some c → commands.Assign c ≡ command
assign_back (commands.Create x) c e = absurd cc
assign_back (commands.Assign x) c e = let same : x ≡ c = cc in ap (λ (y : Assign). commands.Assign y) (sym same)
assign_back (commands.Delete x) c e = absurd cc
assign_back (commands.Commit x) c e = absurd cc
assign_back (commands.Merge x) c e = absurd cc
assign_back (commands.Transplant x) c e = absurd cc

delete_back : (command : Command) (c : Delete) → as_delete command ≡ Some c → commands.Delete c ≡ command
delete_back (commands.Create x) c e = absurd cc
delete_back (commands.Assign x) c e = absurd cc
delete_back (commands.Delete x) c e = let same : x ≡ c = cc in ap (λ (y : Delete). commands.Delete y) (sym same)
delete_back (commands.Commit x) c e = absurd cc
delete_back (commands.Merge x) c e = absurd cc
delete_back (commands.Transplant x) c e = absurd cc

request_back : (command : Command) (c : CommitRequest) → as_request command ≡ Some c → commands.Commit c ≡ command
request_back (commands.Create x) c e = absurd cc
request_back (commands.Assign x) c e = absurd cc
request_back (commands.Delete x) c e = absurd cc
request_back (commands.Commit x) c e = let same : x ≡ c = cc in ap (λ (y : CommitRequest). commands.Commit y) (sym same)
request_back (commands.Merge x) c e = absurd cc
request_back (commands.Transplant x) c e = absurd cc

merge_back : (command : Command) (c : Merge) → as_merge command ≡ Some c → commands.Merge c ≡ command
merge_back (commands.Create x) c e = absurd cc
merge_back (commands.Assign x) c e = absurd cc
merge_back (commands.Delete x) c e = absurd cc
merge_back (commands.Commit x) c e = absurd cc
merge_back (commands.Merge x) c e = let same : x ≡ c = cc in ap (λ (y : Merge). commands.Merge y) (sym same)
merge_back (commands.Transplant x) c e = absurd cc

transplant_back : (command : Command) (c : Transplant) → as_transplant command ≡ Some c → commands.Transplant c ≡ command
transplant_back (commands.Create x) c e = absurd cc
transplant_back (commands.Assign x) c e = absurd cc
transplant_back (commands.Delete x) c e = absurd cc
transplant_back (commands.Commit x) c e = absurd cc
transplant_back (commands.Merge x) c e = absurd cc
transplant_back (commands.Transplant x) c e = let same : x ≡ c = cc in ap (λ (y : Transplant). commands.Transplant y) (sym same)

pub command_is : (digest : Digest) (draft kind : ℕ) → IsCode (command_code digest draft kind)
command_is digest draft zero = nothing_is
command_is digest draft (suc zero) = variant_is _ _ _ (λ _. refl) create_back create_is
command_is digest draft (suc (suc zero)) = variant_is _ _ _ (λ _. refl) assign_back assign_is
command_is digest draft (suc (suc (suc zero))) = variant_is _ _ _ (λ _. refl) delete_back delete_is
command_is digest draft (suc (suc (suc (suc zero)))) = variant_is _ _ _ (λ _. refl) request_back (request_is digest draft)
command_is digest draft (suc (suc (suc (suc (suc zero))))) = variant_is _ _ _ (λ _. refl) merge_back merge_is
command_is digest draft (suc (suc (suc (suc (suc (suc zero)))))) = variant_is _ _ _ (λ _. refl) transplant_back transplant_is
command_is digest draft (suc (suc (suc (suc (suc (suc (suc n))))))) = nothing_is

-- a call of the kind of a number has that number
pub numbered : (digest : Digest) (draft kind : ℕ) (command : Command) → (command_code digest draft kind).Fits command → command_number command ≡ kind
numbered digest draft zero command fits = absurd fits
numbered digest draft (suc zero) (commands.Create c) fits = refl
numbered digest draft (suc zero) (commands.Assign c) fits = let no : _ = fits.1 in absurd cc
numbered digest draft (suc zero) (commands.Delete c) fits = let no : _ = fits.1 in absurd cc
numbered digest draft (suc zero) (commands.Commit c) fits = let no : _ = fits.1 in absurd cc
numbered digest draft (suc zero) (commands.Merge c) fits = let no : _ = fits.1 in absurd cc
numbered digest draft (suc zero) (commands.Transplant c) fits = let no : _ = fits.1 in absurd cc
numbered digest draft (suc (suc zero)) (commands.Create c) fits = let no : _ = fits.1 in absurd cc
numbered digest draft (suc (suc zero)) (commands.Assign c) fits = refl
numbered digest draft (suc (suc zero)) (commands.Delete c) fits = let no : _ = fits.1 in absurd cc
numbered digest draft (suc (suc zero)) (commands.Commit c) fits = let no : _ = fits.1 in absurd cc
numbered digest draft (suc (suc zero)) (commands.Merge c) fits = let no : _ = fits.1 in absurd cc
numbered digest draft (suc (suc zero)) (commands.Transplant c) fits = let no : _ = fits.1 in absurd cc
numbered digest draft (suc (suc (suc zero))) (commands.Create c) fits = let no : _ = fits.1 in absurd cc
numbered digest draft (suc (suc (suc zero))) (commands.Assign c) fits = let no : _ = fits.1 in absurd cc
numbered digest draft (suc (suc (suc zero))) (commands.Delete c) fits = refl
numbered digest draft (suc (suc (suc zero))) (commands.Commit c) fits = let no : _ = fits.1 in absurd cc
numbered digest draft (suc (suc (suc zero))) (commands.Merge c) fits = let no : _ = fits.1 in absurd cc
numbered digest draft (suc (suc (suc zero))) (commands.Transplant c) fits = let no : _ = fits.1 in absurd cc
numbered digest draft (suc (suc (suc (suc zero)))) (commands.Create c) fits = let no : _ = fits.1 in absurd cc
numbered digest draft (suc (suc (suc (suc zero)))) (commands.Assign c) fits = let no : _ = fits.1 in absurd cc
numbered digest draft (suc (suc (suc (suc zero)))) (commands.Delete c) fits = let no : _ = fits.1 in absurd cc
numbered digest draft (suc (suc (suc (suc zero)))) (commands.Commit c) fits = refl
numbered digest draft (suc (suc (suc (suc zero)))) (commands.Merge c) fits = let no : _ = fits.1 in absurd cc
numbered digest draft (suc (suc (suc (suc zero)))) (commands.Transplant c) fits = let no : _ = fits.1 in absurd cc
numbered digest draft (suc (suc (suc (suc (suc zero))))) (commands.Create c) fits = let no : _ = fits.1 in absurd cc
numbered digest draft (suc (suc (suc (suc (suc zero))))) (commands.Assign c) fits = let no : _ = fits.1 in absurd cc
numbered digest draft (suc (suc (suc (suc (suc zero))))) (commands.Delete c) fits = let no : _ = fits.1 in absurd cc
numbered digest draft (suc (suc (suc (suc (suc zero))))) (commands.Commit c) fits = let no : _ = fits.1 in absurd cc
numbered digest draft (suc (suc (suc (suc (suc zero))))) (commands.Merge c) fits = refl
numbered digest draft (suc (suc (suc (suc (suc zero))))) (commands.Transplant c) fits = let no : _ = fits.1 in absurd cc
numbered digest draft (suc (suc (suc (suc (suc (suc zero)))))) (commands.Create c) fits = let no : _ = fits.1 in absurd cc
numbered digest draft (suc (suc (suc (suc (suc (suc zero)))))) (commands.Assign c) fits = let no : _ = fits.1 in absurd cc
numbered digest draft (suc (suc (suc (suc (suc (suc zero)))))) (commands.Delete c) fits = let no : _ = fits.1 in absurd cc
numbered digest draft (suc (suc (suc (suc (suc (suc zero)))))) (commands.Commit c) fits = let no : _ = fits.1 in absurd cc
numbered digest draft (suc (suc (suc (suc (suc (suc zero)))))) (commands.Merge c) fits = let no : _ = fits.1 in absurd cc
numbered digest draft (suc (suc (suc (suc (suc (suc zero)))))) (commands.Transplant c) fits = refl
numbered digest draft (suc (suc (suc (suc (suc (suc (suc n))))))) command fits = absurd fits
