use Rattle.rs_window.proofs.Bodies.{decodes}
use Rattle.rs_window.proofs.laws.law_chunks_carry_the_page.Goals as goal

pub returns : goal.returns
returns c octets sent k = decodes octets sent k
