pub mod GeoMap
