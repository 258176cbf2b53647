use Rattle.desk_laws.proofs.ChangeLemmas.{messages-change_one, messages-read_one}
use Rattle.desk_laws.proofs.OtherLemmas.{others-keep_rows}
use Rattle.desk_laws.proofs.FollowChanges.{lists-follow_one, lists-follow_end}
use Rattle.desk_laws.proofs.law.law_of_changes.Goals as goal

pub returns-clause-one_window : goal.returns-clause-one_window
returns-clause-one_window c = messages-change_one

pub returns-clause-own_pixels : goal.returns-clause-own_pixels
returns-clause-own_pixels c = messages-read_one

pub returns-clause-one_row : goal.returns-clause-one_row
returns-clause-one_row c = lists-follow_one

pub returns-clause-an_end : goal.returns-clause-an_end
returns-clause-an_end c = lists-follow_end

pub returns-clause-others : goal.returns-clause-others
returns-clause-others c = others-keep_rows
