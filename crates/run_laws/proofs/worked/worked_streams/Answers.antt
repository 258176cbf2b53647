use Rattle.std.proofs.Common.{refl}
use Rattle.run_laws.specs.WorkedRows.{red, whole, small_desktop, bytes, just, version, window_at, posts, greeting, focus_in, keyboard, focused, background, label, blank, ring}
use Rattle.run_laws.specs.WorkedStreams.{four_pages, dump_of, few_posts}
use Rattle.run_laws.proofs.worked.worked_streams.Goals as goal

pub returns-clause-one_byte_at_a_time : goal.returns-clause-one_byte_at_a_time
unfolding red whole small_desktop bytes just version window_at posts greeting focus_in keyboard focused background label blank ring four_pages dump_of few_posts
returns-clause-one_byte_at_a_time c = refl

pub returns-clause-width_out_of_range : goal.returns-clause-width_out_of_range
unfolding red whole small_desktop bytes just version window_at posts greeting focus_in keyboard focused background label blank ring four_pages dump_of few_posts
returns-clause-width_out_of_range c = refl

pub returns-clause-width_brought_into_range : goal.returns-clause-width_brought_into_range
unfolding red whole small_desktop bytes just version window_at posts greeting focus_in keyboard focused background label blank ring four_pages dump_of few_posts
returns-clause-width_brought_into_range c = refl

pub returns-clause-reference_past_the_pages : goal.returns-clause-reference_past_the_pages
unfolding red whole small_desktop bytes just version window_at posts greeting focus_in keyboard focused background label blank ring four_pages dump_of few_posts
returns-clause-reference_past_the_pages c = refl

pub returns-clause-dump_acknowledged : goal.returns-clause-dump_acknowledged
unfolding red whole small_desktop bytes just version window_at posts greeting focus_in keyboard focused background label blank ring four_pages dump_of few_posts
returns-clause-dump_acknowledged c = refl

pub returns-clause-dump_of_an_old_agent : goal.returns-clause-dump_of_an_old_agent
unfolding red whole small_desktop bytes just version window_at posts greeting focus_in keyboard focused background label blank ring four_pages dump_of few_posts
returns-clause-dump_of_an_old_agent c = refl

pub returns-clause-dump_of_sixteen_bits : goal.returns-clause-dump_of_sixteen_bits
unfolding red whole small_desktop bytes just version window_at posts greeting focus_in keyboard focused background label blank ring four_pages dump_of few_posts
returns-clause-dump_of_sixteen_bits c = refl

pub returns-clause-wrong_version : goal.returns-clause-wrong_version
unfolding red whole small_desktop bytes just version window_at posts greeting focus_in keyboard focused background label blank ring four_pages dump_of few_posts
returns-clause-wrong_version c = refl

pub returns-clause-early_end : goal.returns-clause-early_end
unfolding red whole small_desktop bytes just version window_at posts greeting focus_in keyboard focused background label blank ring four_pages dump_of few_posts
returns-clause-early_end c = refl

pub returns-clause-clipboard_too_long : goal.returns-clause-clipboard_too_long
unfolding red whole small_desktop bytes just version window_at posts greeting focus_in keyboard focused background label blank ring four_pages dump_of few_posts
returns-clause-clipboard_too_long c = refl

pub returns-clause-window_limit : goal.returns-clause-window_limit
unfolding red whole small_desktop bytes just version window_at posts greeting focus_in keyboard focused background label blank ring four_pages dump_of few_posts
returns-clause-window_limit c = refl
