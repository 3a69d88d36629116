-- Paths segment by segment, with AS numbers in two octets and in four.
pub mod PathWalk
pub mod PathLaws
pub mod SegmentCut
pub mod PathLength
pub mod Widening
pub mod Leading
pub mod MergedPaths
pub mod PathFour
pub mod SegmentWalk
pub mod NarrowPath
