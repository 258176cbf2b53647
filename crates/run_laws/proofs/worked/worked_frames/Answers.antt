use Rattle.std.proofs.Common.{refl}
use Rattle.run_laws.specs.WorkedRows.{red, whole, small_desktop, bytes, just, version, greeting, focus_in, keyboard, focused, label}
use Rattle.run_laws.specs.WorkedFrames.{one_page, window_of_three, three_words, report, three_reported, framed}
use Rattle.run_laws.proofs.worked.worked_frames.Goals as goal

pub returns-clause-frame_changes_between_loads : goal.returns-clause-frame_changes_between_loads
unfolding red whole small_desktop bytes just version greeting focus_in keyboard focused label one_page window_of_three three_words report three_reported framed
returns-clause-frame_changes_between_loads c = refl

pub returns-clause-loaded_once : goal.returns-clause-loaded_once
unfolding red whole small_desktop bytes just version greeting focus_in keyboard focused label one_page window_of_three three_words report three_reported framed
returns-clause-loaded_once c = refl

pub returns-clause-contents_shown : goal.returns-clause-contents_shown
unfolding red whole small_desktop bytes just version greeting focus_in keyboard focused label one_page window_of_three three_words report three_reported framed
returns-clause-contents_shown c = refl

pub returns-clause-report_outside_the_dump : goal.returns-clause-report_outside_the_dump
unfolding red whole small_desktop bytes just version greeting focus_in keyboard focused label one_page window_of_three three_words report three_reported framed
returns-clause-report_outside_the_dump c = refl

pub returns-clause-nothing_loaded_outside : goal.returns-clause-nothing_loaded_outside
unfolding red whole small_desktop bytes just version greeting focus_in keyboard focused label one_page window_of_three three_words report three_reported framed
returns-clause-nothing_loaded_outside c = refl

pub returns-clause-report_out_of_range : goal.returns-clause-report_out_of_range
unfolding red whole small_desktop bytes just version greeting focus_in keyboard focused label one_page window_of_three three_words report three_reported framed
returns-clause-report_out_of_range c = refl

pub returns-clause-cut_and_grown : goal.returns-clause-cut_and_grown
unfolding red whole small_desktop bytes just version greeting focus_in keyboard focused label one_page window_of_three three_words report three_reported framed
returns-clause-cut_and_grown c = refl

pub returns-clause-too_few_tiles : goal.returns-clause-too_few_tiles
unfolding red whole small_desktop bytes just version greeting focus_in keyboard focused label one_page window_of_three three_words report three_reported framed
returns-clause-too_few_tiles c = refl
