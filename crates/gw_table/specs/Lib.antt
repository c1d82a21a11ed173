-- What callers may rest on: what a table passes and what decides it (Table), which rules can never decide (Dead), what two
-- tables differ in (Difference) and those of a gateway (Crossings), what a table does to the frames of a question (Question),
-- which question asks for the frames that two parts decide (PairFrames), what a text says as a table and why it is none
-- (TableText), and the program that a table is compiled to (Emission). What only the index speaks of inside: RuleSets, Sections,
-- Index and FrameFields. What only differences and questions do: Ingress, PartIndices and Universes.
pub mod Table
pub mod Dead
pub mod Difference
pub mod Crossings
pub mod Question
pub mod PairFrames
pub mod TableText
pub mod Emission
pub mod RuleSets
pub mod Sections
pub mod Index
pub mod FrameFields
pub mod Ingress
pub mod PartIndices
pub mod Universes
