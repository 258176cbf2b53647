use Rattle.region_clip.proofs.RegionLemmas.{regions-disjoint, regions-points}
use Rattle.region_clip.proofs.law.law_of_regions.Goals as goal

pub returns-clause-disjoint : goal.returns-clause-disjoint
returns-clause-disjoint c = regions-disjoint

pub returns-clause-pixels : goal.returns-clause-pixels
returns-clause-pixels c = regions-points
