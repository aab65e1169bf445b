use Rattle.cat_json.proofs.Items.{IsReadSo}
use Rattle.cat_json.proofs.read.items.Given as goal

abbrev pub invariant-loop-value : goal.invariant-loop-value
invariant-loop-value g l = IsReadSo g.F.ReadForm.reads l.values l.value-index l.items
