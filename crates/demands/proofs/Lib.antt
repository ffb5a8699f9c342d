-- The proofs of the statements in specs/. Demands names the proof of each.
pub mod Demands
-- laws of lines, of the two axes and of the page in a tray
mod Pages
mod Near
-- the answer, the trays and the work
mod Same
mod Untouched
mod Work
-- the reach
mod Windows
mod Reach
-- the flip
mod FlipViews
mod FlipBoxes
mod Flip
mod FlipJob
mod FlipWorked
-- jobs that take a file
mod Files
-- the exact reach
mod ExactNumbers
mod ExactLines
mod ExactTrays
mod Exact
mod ExactJob
mod ExactFiles
mod ExactWorked
-- lists of jobs
mod Lists
mod ListAnswers
-- why a pixel came out so
mod WhyAnswers
mod Why
mod WhyReach
