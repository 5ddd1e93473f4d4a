use Rattle.saturation.proofs.Going.{grown_trans}
use Rattle.saturation.proofs.Onwards.{keeps_on}
use Rattle.saturation.proofs.Staying.{serves_more}
use Rattle.saturation.proofs.Standing.{acted_small}
use Rattle.saturation.proofs.Sweeps.{serves_rowed, began_from}
use Rattle.saturation.proofs.Turning.{all_added}
use Rattle.saturation.proofs.sweeping.turn.Goals as goal

pub rows-rows-requires-clause-small : goal.rows-rows-requires-clause-small
rows-rows-requires-clause-small c = acted_small _ c.requires.goes c.requires.acted

pub steps-requires : goal.steps-requires
steps-requires c = serves_rowed c.requires.goes c.rows-rows.ensures.rows

pub plants-requires : goal.plants-requires
plants-requires c = record {
  serves = serves_more (serves_rowed c.requires.goes c.rows-rows.ensures.rows) c.steps.ensures.grown;
  acted = c.steps.ensures.grown.part.acted _ c.requires.acted;
}

pub returns-clause-grown : goal.returns-clause-grown
returns-clause-grown c = grown_trans c.steps.ensures.grown c.plants.ensures.grown

pub returns-clause-keeps : goal.returns-clause-keeps
returns-clause-keeps c = keeps_on (grown_trans c.steps.ensures.grown c.plants.ensures.grown).onward c.rows-rows.ensures.keeps

pub returns-clause-began : goal.returns-clause-began
returns-clause-began c =
    let a = c.steps.ensures in
    let e = c.plants.ensures in
    let rows = c.rows-rows.ensures.rows in
    began_from c.requires.goes rows a.grown e.grown
    (λ t q b i. all_added (serves_rowed c.requires.goes rows) (record { switch = a.switch; grant = a.grant; join = a.join; call = a.call }) q b i)
    (λ _. e.taken) (λ _. e.lent)
