use Rattle.std.proofs.Common.{refl}
use Rattle.run_laws.specs.WorkedRows.{red, whole, small_desktop, bytes, just, version, posts, greeting}
use Rattle.run_laws.specs.WorkedStreams.{four_pages, few_posts}
use Rattle.run_laws.specs.WorkedCauses.{ends_for, one_made, acknowledged}
use Rattle.run_laws.proofs.worked.worked_causes.Goals as goal

pub returns-clause-link_lost : goal.returns-clause-link_lost
unfolding red whole small_desktop bytes just version posts greeting four_pages few_posts ends_for one_made acknowledged
returns-clause-link_lost c = refl

pub returns-clause-type_not_taken : goal.returns-clause-type_not_taken
unfolding red whole small_desktop bytes just version posts greeting four_pages few_posts ends_for one_made acknowledged
returns-clause-type_not_taken c = (refl, (refl, refl))

pub returns-clause-length_of_destroy : goal.returns-clause-length_of_destroy
unfolding red whole small_desktop bytes just version posts greeting four_pages few_posts ends_for one_made acknowledged
returns-clause-length_of_destroy c = refl

pub returns-clause-length_of_dump : goal.returns-clause-length_of_dump
unfolding red whole small_desktop bytes just version posts greeting four_pages few_posts ends_for one_made acknowledged
returns-clause-length_of_dump c = (refl, (refl, refl))

pub returns-clause-one_reference_more : goal.returns-clause-one_reference_more
unfolding red whole small_desktop bytes just version posts greeting four_pages few_posts ends_for one_made acknowledged
returns-clause-one_reference_more c = refl

pub returns-clause-no_such_window : goal.returns-clause-no_such_window
unfolding red whole small_desktop bytes just version posts greeting four_pages few_posts ends_for one_made acknowledged
returns-clause-no_such_window c = refl

pub returns-clause-range_before_window : goal.returns-clause-range_before_window
unfolding red whole small_desktop bytes just version posts greeting four_pages few_posts ends_for one_made acknowledged
returns-clause-range_before_window c = refl

pub returns-clause-clipboard_of_no_window : goal.returns-clause-clipboard_of_no_window
unfolding red whole small_desktop bytes just version posts greeting four_pages few_posts ends_for one_made acknowledged
returns-clause-clipboard_of_no_window c = refl

pub returns-clause-not_created : goal.returns-clause-not_created
unfolding red whole small_desktop bytes just version posts greeting four_pages few_posts ends_for one_made acknowledged
returns-clause-not_created c = (refl, refl)

pub returns-clause-dump_out_of_range : goal.returns-clause-dump_out_of_range
unfolding red whole small_desktop bytes just version posts greeting four_pages few_posts ends_for one_made acknowledged
returns-clause-dump_out_of_range c = (refl, (refl, (refl, refl)))

pub returns-clause-five_pages_of_four : goal.returns-clause-five_pages_of_four
unfolding red whole small_desktop bytes just version posts greeting four_pages few_posts ends_for one_made acknowledged
returns-clause-five_pages_of_four c = refl

pub returns-clause-reference_before_budget : goal.returns-clause-reference_before_budget
unfolding red whole small_desktop bytes just version posts greeting four_pages few_posts ends_for one_made acknowledged
returns-clause-reference_before_budget c = refl

pub returns-clause-version_told : goal.returns-clause-version_told
unfolding red whole small_desktop bytes just version posts greeting four_pages few_posts ends_for one_made acknowledged
returns-clause-version_told c = (refl, refl)
