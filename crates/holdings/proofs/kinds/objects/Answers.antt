use Rattle.std.proofs.Common.{arith}
use Rattle.std.proofs.lemmas.Bool.Decides.{nat_tests}
use Rattle.access.specs.declared.code.Event.TheVariants.{Inserted, Updated, Deleted}
use Rattle.access.specs.declared.code.Object.TheVariants.{Procedure, Triggers, Created}
use Rattle.holdings.proofs.kinds.objects.Goals as goal

pub returns : goal.returns
returns c (Procedure e) = grind (arith, nat_tests, c.add-5.ensures 0 e, c.add-4.ensures 0 e, c.add-3.ensures 0 e, c.add-2.ensures 0 e, c.add.ensures 0 e, c.empty-objects.ensures 0 e, c.of_kind.ensures e)
returns c (Triggers e Inserted) = grind (arith, nat_tests, c.add-5.ensures 1 e, c.add-4.ensures 1 e, c.add-3.ensures 1 e, c.add-2.ensures 1 e, c.add.ensures 1 e, c.empty-objects.ensures 1 e, c.of_kind-tables.ensures e)
returns c (Triggers e Updated) = grind (arith, nat_tests, c.add-5.ensures 2 e, c.add-4.ensures 2 e, c.add-3.ensures 2 e, c.add-2.ensures 2 e, c.add.ensures 2 e, c.empty-objects.ensures 2 e, c.of_kind-tables.ensures e)
returns c (Triggers e Deleted) = grind (arith, nat_tests, c.add-5.ensures 3 e, c.add-4.ensures 3 e, c.add-3.ensures 3 e, c.add-2.ensures 3 e, c.add.ensures 3 e, c.empty-objects.ensures 3 e, c.of_kind-tables.ensures e)
returns c (Created e) = grind (arith, nat_tests, c.add-5.ensures 4 e, c.add-4.ensures 4 e, c.add-3.ensures 4 e, c.add-2.ensures 4 e, c.add.ensures 4 e, c.empty-objects.ensures 4 e, c.hosts.ensures e)
